-- The tokens of a composition are in bounds.
use Rattle.std.proofs.Common.{◌≡◌, ℕ, ◌<◌, Bool, true, false, cond, List, [], ◌∷◌, map, refl, subst}
use Rattle.std.proofs.Common.{arith, Option, Some, None, Ok, Err}
use Rattle.std.specs.List.{AllByRecursion}
use Rattle.std.specs.Option.{IfSome, option_or}
use Rattle.std.proofs.lemmas.Bool.{and_parts}
use Rattle.std.proofs.lemmas.Bool.Decides.{nat_tests}
use Rattle.std.proofs.lemmas.List.Elements.{recursion_from_All, All-from_recursion}
use Rattle.oxc_sourcemap_tokens.specs.declared.errors.error.Error.{Error}
use Rattle.oxc_sourcemap_tokens.specs.declared.errors.error.Error.TheVariants.{TooLarge}
use Rattle.oxc_sourcemap_tokens.specs.Token.{TokenRecord, IsInBounds, AreInBounds}
use Rattle.oxc_sourcemap_parts.specs.Record.{Text, MapRecord}
use Rattle.oxc_sourcemap_tokens.specs.Errors.{unless}
use Rattle.oxc_sourcemap_steps.specs.Composed.{target_of, target_in, line_of, found_on, targets}
use Rattle.oxc_sourcemap_steps.specs.Composed.{inherited_id, composed_names, composed_token}
use Rattle.oxc_sourcemap_steps.specs.Composed.{composed, may_be_id, are_ids, composition_fault}
use Rattle.oxc_sourcemap_steps.specs.Composed.{composition}
use Rattle.oxc_sourcemap_steps.proofs.Targets.{found-all}

small-id : (id taken : Option ℕ) → IfSome id (λ n. n < 4294967295) → may_be_id taken ≡ true → IfSome (option_or id taken) (λ n. n < 4294967295)
small-id (Some i) taken h k = h
small-id None None h k = tt
small-id None (Some n) h k = grind (arith, nat_tests, k)

through : (olds names : List Text) (t : TokenRecord) (found : Option TokenRecord) → IsInBounds t → IfSome found IsInBounds → may_be_id (inherited_id olds names (target_of t found)) ≡ true → IsInBounds (composed_token olds names (target_of t found))
through olds names t None b f k = record { dst_line = b.dst_line; dst_col = b.dst_col; src_line = omega arith; src_col = omega arith; source_id = tt; name_id = tt }
through olds names t (Some u) b f k =
    record { dst_line = b.dst_line; dst_col = b.dst_col; src_line = f.src_line; src_col = f.src_col; source_id = f.source_id; name_id = small-id u.name_id (inherited_id olds names (target_of t (Some u))) f.name_id k }

all-through : (olds names : List Text) (bs ts : List TokenRecord) → AllByRecursion IsInBounds bs → AllByRecursion IsInBounds ts → are_ids olds names (map (target_in bs) ts) ≡ true → AllByRecursion IsInBounds (map (composed_token olds names) (map (target_in bs) ts))
all-through olds names bs [] h k e = tt
all-through olds names bs (t ∷ ts) h k e =
    let p = and_parts (may_be_id (inherited_id olds names (target_in bs t))) (are_ids olds names (map (target_in bs) ts)) e in
    (through olds names t (found_on (line_of bs t) t) k.0 (found-all IsInBounds bs t h) p.0, all-through olds names bs ts h k.1 p.1)

given : (fault : Option Error) (ids : Bool) (r m : MapRecord) → unless fault (cond ids (Ok r) (Err TooLarge)) ≡ Ok m → (ids ≡ true) × (r ≡ m)
given (Some f) ids r m e = absurd (cc (e))
given None true r m e = (refl, cc (e))
given None false r m e = absurd (cc (e))

pub bounds_composed : (a b m : MapRecord) → AreInBounds a.tokens → AreInBounds b.tokens → composition a b ≡ Ok m → AreInBounds m.tokens
bounds_composed a b m h k e =
    let names = composed_names a.names b.names (targets a b) in
    let g = given (composition_fault a b) (are_ids a.names names (targets a b)) (composed a b) m e in
    let all = all-through a.names names b.tokens a.tokens (recursion_from_All IsInBounds b.tokens k) (recursion_from_All IsInBounds a.tokens h) g.0 in
    subst (λ (r : MapRecord). AreInBounds r.tokens) g.1 (All-from_recursion IsInBounds (composed a b).tokens all)
