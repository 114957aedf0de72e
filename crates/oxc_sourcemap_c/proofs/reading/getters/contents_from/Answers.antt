use Rattle.std.proofs.Common.{◌≡◌, ◌∙◌, ℕ, List, ap, sym, drop, length, min, option_map, inl, inr}
use Rattle.std.proofs.Common.{arith}
use Rattle.std.proofs.lemmas.Bool.{cases_lt}
use Rattle.std.proofs.lemmas.List.{drop-map, drop_all, length-drop, length-map, take_all}
use Rattle.std.specs.Cow.{cow_str_bytes}
use Rattle.oxc_sourcemap_c.specs.Listed.{cow_options}
use Rattle.oxc_sourcemap_c.proofs.reading.getters.contents_from.Goals as goal

-- an index past the end cuts off as much as the end
at_end : {A : Type 0} (xs : List A) (from n : ℕ) → n ≡ min from (length xs) → drop n xs ≡ drop from xs
at_end xs from n is =
    elim (cases_lt from (length xs)) [
      | inl less ↦ (let same : n ≡ from = omega (arith, is, less) in ap (λ k. drop k xs) same)
      | inr more ↦ (let past : length xs ≡ n = omega (arith, is, more) in drop_all n xs (omega (arith, past)) ∙ sym (drop_all from xs more))
    ]

pub returns : goal.returns
returns c =
    let contents = c.args.contents.now in
    let n = c.min.result in
    ap (λ xs. cow_options xs) (take_all _ (drop n contents) (omega (arith, length-drop n contents)))
    ∙ sym (drop-map (option_map cow_str_bytes) n contents)
    ∙ at_end (cow_options contents) c.args.from n (omega (arith, c.min.ensures, length-map contents (option_map cow_str_bytes)))
