-- Worked examples of simplifications, computed by the definitions themselves.
use Rattle.std.specs.Prelude.{◌≡◌, refl, ℕ, List, [], ◌∷◌, Some, None, Err}
use Rattle.oxc_sourcemap_tokens.specs.Token.{TokenRecord}
use Rattle.oxc_sourcemap_tokens.specs.declared.errors.error.Error.TheVariants.{TooLarge}
use Rattle.oxc_sourcemap_tokens.specs.declared.errors.plan_error.PlanError.TheVariants.{Map}
use Rattle.oxc_sourcemap_tokens.specs.declared.errors.plan_error.PlanError.TheVariants.{Unsorted}
use Rattle.oxc_sourcemap_parts.specs.DecodedMap.{decoded_map_of}
use Rattle.oxc_sourcemap_parts.specs.Record.{Text, MapRecord}
use Rattle.oxc_sourcemap_parts.specs.Views.{empty_record}
use Rattle.oxc_sourcemap_steps.specs.Simplified.{simplified, simplification, simplified_decoded_map}

-- a token of the first source at a generated column, with a source line that tells it from others
abbrev token : ℕ → ℕ → TokenRecord
token col mark = record { dst_line = 0; dst_col = col; src_line = mark; src_col = 0; source_id = Some 0; name_id = None }

abbrev unmapped : ℕ → TokenRecord
unmapped col = record { dst_line = 0; dst_col = col; src_line = 0; src_col = 0; source_id = None; name_id = None }

-- a map of one source
abbrev of_tokens : List TokenRecord → MapRecord
of_tokens tokens = record empty_record { sources = (97 ∷ []) ∷ []; tokens = tokens }

abbrev tokens_of : List TokenRecord → List TokenRecord
tokens_of tokens = (simplified (of_tokens tokens)).tokens

-- a token that points where the one before it points goes, and so does an unmapped one after an unmapped one; the first stays
drops-repeats : tokens_of (token 0 1 ∷ token 3 1 ∷ token 5 2 ∷ []) ≡ token 0 1 ∷ token 5 2 ∷ []
drops-repeats = refl

keeps-unmapped : tokens_of (unmapped 0 ∷ unmapped 3 ∷ token 5 2 ∷ []) ≡ unmapped 0 ∷ token 5 2 ∷ []
keeps-unmapped = refl

-- of several at a column the first and the last stay
drops-middle : tokens_of (token 2 1 ∷ token 2 2 ∷ token 2 3 ∷ []) ≡ token 2 1 ∷ token 2 3 ∷ []
drops-middle = refl

-- but the last goes if no column is left to it
drops-unfound : tokens_of (token 2 1 ∷ token 2 2 ∷ token 3 3 ∷ []) ≡ token 2 1 ∷ token 3 3 ∷ []
drops-unfound = refl

-- where the first of several repeats, the last moves to the next column
moves-last : tokens_of (token 0 1 ∷ token 5 1 ∷ token 5 2 ∷ []) ≡ token 0 1 ∷ token 6 2 ∷ []
moves-last = refl

-- a name that differs keeps a token
abbrev named : ℕ → ℕ → ℕ → ℕ → TokenRecord
named col mark source name = record { dst_line = 0; dst_col = col; src_line = mark; src_col = 0; source_id = Some source; name_id = Some name }

abbrev p : Text
p = 112 ∷ []

abbrev q : Text
q = 113 ∷ []

abbrev a : Text
a = 97 ∷ []

abbrev b : Text
b = 98 ∷ []

-- names and sources are those that are needed, each once, by first use; a source that is also listed as ignored keeps both places
abbrev merged : MapRecord
merged = record empty_record {
  names = q ∷ p ∷ p ∷ [];
  sources = b ∷ a ∷ a ∷ a ∷ [];
  source_contents = None ∷ None ∷ Some q ∷ None ∷ [];
  ignore_list = Some (3 ∷ []);
  tokens = named 0 1 1 2 ∷ named 3 1 3 1 ∷ named 5 1 2 1 ∷ named 7 2 1 9 ∷ [];
}

merges-names : (simplified merged).names ≡ p ∷ []
merges-names = refl

merges-sources : (simplified merged).sources ≡ a ∷ a ∷ a ∷ []
merges-sources = refl

keeps-contents : (simplified merged).source_contents ≡ None ∷ None ∷ Some q ∷ []
keeps-contents = refl

keeps-ignored : (simplified merged).ignore_list ≡ Some (1 ∷ [])
keeps-ignored = refl

renumbers : (simplified merged).tokens ≡ named 0 1 0 0 ∷ named 5 1 2 0 ∷ record (token 7 2) { source_id = Some 0 } ∷ []
renumbers = refl

-- what the simplified map means is the simplified decoded map
means-simplified : decoded_map_of (simplified merged) ≡ simplified_decoded_map (decoded_map_of merged)
means-simplified = refl

-- columns that go back, and a token that would move past the last column
refuses-unsorted : simplification (of_tokens (token 5 1 ∷ token 3 1 ∷ [])) ≡ Err Unsorted
refuses-unsorted = refl

refuses-past : simplification (of_tokens (token 0 1 ∷ token 4294967295 1 ∷ token 4294967295 2 ∷ [])) ≡ Err (Map TooLarge)
refuses-past = refl
