-- How many tokens lines have that do not go back.
use Rattle.std.proofs.Common.{◌≡◌, ℕ, zero, suc, ◌+◌, ◌-◌, ◌≤◌, List, map, length, min, Option}
use Rattle.std.proofs.Common.{Some, None, Result, Ok, Err, Bool, ap, ◌∙◌, arith, option_map}
use Rattle.std.proofs.Common.{if◌then◌else◌, IfOk, IfSome, length-append, subst, sym}
use Rattle.std.proofs.lemmas.List.FromFn.{length-map-range_with_len}
use Rattle.std.specs.List.{range_with_len}
use Rattle.oxc_sourcemap_compiled.specs.Decompiled.{DoLinesFollow}
use Rattle.oxc_sourcemap_compiled.specs.CompiledMeaning.{start_in, token_in, line_in, entry_begin}
use Rattle.oxc_sourcemap_compiled.specs.CompiledMeaning.{entry_end, entry_tokens, joined, tokens_in}
use Rattle.oxc_sourcemap_compiled.specs.declared.layout.Header.{Header}
use Rattle.oxc_sourcemap_parts.specs.Record.{MapRecord}
use Rattle.oxc_sourcemap_compiled.proofs.Taken.{joined-more, checked-some}

-- where the tokens of an entry end, after those of the entries in front
next-count : (before here tokens front behind total : ℕ) → front ≤ behind → before ≤ min front tokens → here ≡ min behind tokens - min front (min behind tokens) → total ≡ before + here → total ≤ min behind tokens
next-count before here tokens front behind total up few is sum = omega (arith, up, few, is, sum)

module _ (bytes : List ℕ) (h : Header) (follow : DoLinesFollow bytes h) where
  entries-few : (n : ℕ) → n ≤ h.lines → length (joined (map (entry_tokens bytes h) (range_with_len 0 n))) ≤ min (start_in bytes n) h.tokens
  entries-few zero le = omega arith
  entries-few (suc n) le =
      let f = entry_tokens bytes h in
      let next : suc n ≡ n + 1 = omega arith in
      let before = joined (map f (range_with_len 0 n)) in
      let size = ap (λ m. length (joined (map f (range_with_len 0 m)))) next ∙ ap length (joined-more f n) ∙ length-append before (f n) in
      let here = length-map-range_with_len (token_in bytes h (line_in bytes h n)) (entry_begin bytes h n) (entry_end bytes h n - entry_begin bytes h n) in
      let few = next-count (length before) (length (f n)) h.tokens (start_in bytes n) (start_in bytes (n + 1)) (length (joined (map f (range_with_len 0 (suc n))))) (follow n (omega (arith, le))) (entries-few n (omega (arith, le))) here size in
      subst (λ m. length (joined (map f (range_with_len 0 (suc n)))) ≤ min (start_in bytes m) h.tokens) (sym next) few

  pub tokens-few : length (tokens_in bytes h) ≤ h.tokens
  tokens-few = omega (arith, entries-few h.lines (omega arith))

-- the tokens of what is taken apart, if anything is
pub few-made : {P E : Type 0} (record_of : P → MapRecord) (r : MapRecord) (n : ℕ) (b : Bool) (result : Result (Option P) E) → IfOk result (λ parts. option_map record_of parts ≡ (if b then Some r else None))
    → length r.tokens ≤ n → IfOk result (λ parts. IfSome parts (λ made. length (record_of made).tokens ≤ n))
few-made record_of r n b (Err e) is few = tt
few-made record_of r n b (Ok None) is few = tt
few-made record_of r n b (Ok (Some made)) is few =
    let same = checked-some b r (record_of made) is in
    subst (λ m. length m.tokens ≤ n) (sym same.1) few
