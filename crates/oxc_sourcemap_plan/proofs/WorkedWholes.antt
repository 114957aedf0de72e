-- Simplified maps as wholes and inputs of a remapping, computed by the definitions themselves.
use Rattle.std.specs.Prelude.{◌≡◌, refl, true, false, List, [], ◌∷◌, map, length, Some, None}
use Rattle.std.specs.Prelude.{codes}
use Rattle.oxc_sourcemap_tokens.specs.Token.{TokenRecord}
use Rattle.oxc_sourcemap_parts.specs.DecodedMap.{DecodedSource}
use Rattle.oxc_sourcemap_parts.specs.Record.{Text, MapRecord}
use Rattle.oxc_sourcemap_parts.specs.Views.{empty_record}
use Rattle.oxc_sourcemap_steps.specs.Simplified.{simplified}
use Rattle.oxc_sourcemap_plan.specs.InputLaws.{input_paths, inputs_for_sources}
use Rattle.oxc_sourcemap_plan.specs.SimplifiedWhole.{names_of_tokens, marked_in, twin, first_needed}
use Rattle.oxc_sourcemap_plan.proofs.LawsWorked.{token}

-- ---- simplified maps
-- a source without content
abbrev source : Text → DecodedSource
source path = record { path = path; content = None }

-- Of b.js there are an ignored listing and another one, of which a token needs the first alone; nothing needs c.js and the name y.
abbrev twins : MapRecord
twins = record empty_record {
  names = codes "x" ∷ codes "y" ∷ codes "x" ∷ [];
  sources = codes "c.js" ∷ codes "b.js" ∷ codes "a.js" ∷ codes "b.js" ∷ [];
  ignore_list = Some (1 ∷ []);
  tokens = token 0 0 0 0 (Some 1) (Some 2) ∷ token 0 4 0 0 (Some 2) None ∷ token 0 9 0 0 (Some 1) (Some 0) ∷ [];
}

keeps-both_twins : marked_in (simplified twins) ≡ (source (codes "b.js"), false) ∷ (source (codes "b.js"), true) ∷ (source (codes "a.js"), false) ∷ []
keeps-both_twins = refl

are-twins : twin (source (codes "b.js"), true) ≡ (source (codes "b.js"), false)
are-twins = refl

needs-sources_in_order : first_needed (simplified twins) ≡ source (codes "b.js") ∷ source (codes "a.js") ∷ []
needs-sources_in_order = refl

keeps-one_name : (simplified twins).names ≡ codes "x" ∷ []
keeps-one_name = refl

has-names_of_tokens : names_of_tokens (simplified twins) ≡ codes "x" ∷ codes "x" ∷ []
has-names_of_tokens = refl

stays-the_same : simplified (simplified twins) ≡ simplified twins
stays-the_same = refl

-- The law of simplifying twice asks for sorted maps: of these tokens the third moves to the next column, where the first is, too.
abbrev unsorted : MapRecord
unsorted = record empty_record {
  sources = codes "a.js" ∷ [];
  tokens = token 0 1 0 0 (Some 0) None ∷ token 0 0 0 0 (Some 0) None ∷ token 0 0 5 5 (Some 0) None ∷ token 0 2 7 7 (Some 0) None ∷ [];
}

simplifies-once : map (λ t. t.dst_col) (simplified unsorted).tokens ≡ 1 ∷ 1 ∷ 2 ∷ []
simplifies-once = refl

simplifies-again : map (λ t. t.dst_col) (simplified (simplified unsorted)).tokens ≡ 1 ∷ 2 ∷ []
simplifies-again = refl

-- The law of least tokens asks that none is at the greatest column: there the second is found nowhere, and stays.
abbrev at_the_end : List TokenRecord → MapRecord
at_the_end more = record empty_record { sources = codes "a.js" ∷ []; tokens = token 0 4294967295 0 0 (Some 0) None ∷ more }

keeps-two : length (simplified (at_the_end (token 0 4294967295 9 9 (Some 0) None ∷ []))).tokens ≡ 2
keeps-two = refl

keeps-one : length (simplified (at_the_end [])).tokens ≡ 1
keeps-one = refl

-- ---- inputs
abbrev inputs : List (Text × MapRecord)
inputs = (codes "c.js", twins) ∷ (codes "d.js", unsorted) ∷ (codes "a.js", unsorted) ∷ (codes "c.js", unsorted) ∷ []

leaves-out_d : input_paths (inputs_for_sources twins inputs) ≡ codes "c.js" ∷ codes "a.js" ∷ codes "c.js" ∷ []
leaves-out_d = refl
