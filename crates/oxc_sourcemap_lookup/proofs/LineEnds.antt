-- Where lines end, stored token by token.
use Rattle.std.proofs.Common.{◌≡◌, ◌≢◌, ℕ, zero, suc, ◌+◌, ◌<◌, ◌≤◌, nat_lt, Bool, true, false}
use Rattle.std.proofs.Common.{List, [], ◌∷◌, length, take, drop, get_or, max, refl, sym, ap, subst}
use Rattle.std.proofs.Common.{◌∙◌, arith, None, Some, length-take}
use Rattle.std.proofs.Math.ListN.{set}
use Rattle.std.proofs.Math.Seq.{drop-cons}
use Rattle.std.proofs.lemmas.List.{get_or-set_other}
use Rattle.std.proofs.lemmas.Grind.{get_or-set_at}
use Rattle.std.proofs.lemmas.List.Sums.{count_by-le-length, count_by_more_no, count_by_more_yes}
use Rattle.std.specs.List.{last_or}
use Rattle.oxc_sourcemap_tokens.specs.Token.{TokenRecord, last}
use Rattle.oxc_sourcemap_tokens.specs.LineOrder.{first_out_of_order}
use Rattle.oxc_sourcemap_parts.specs.Sorted.{token_line}
use Rattle.oxc_sourcemap_lookup.specs.Lookup.{lines_through}
use Rattle.oxc_sourcemap_lookup.specs.LineSpans.{count_before_line, EndsOf}
use Rattle.oxc_sourcemap_lookup.proofs.Tables.{IsFrom, in_order-from_0}
use Rattle.oxc_sourcemap_lookup.proofs.OwnTables.{last-reached}

-- in a list in line order, no token is on a line after the last token's
reached-of : (t : TokenRecord) (ts : List TokenRecord) (i : ℕ) (d : TokenRecord) → IsFrom t.dst_line ts → i < length (t ∷ ts) → (get_or (t ∷ ts) i d).dst_line < lines_through (last_or (Some t) ts)
reached-of t ts zero d p h = last-reached t ts p
reached-of t [] (suc i) d p h = absurd (omega (arith, h))
reached-of t (u ∷ us) (suc i) d p h = reached-of u us i d p.1 (omega (arith, h))

pub reached : (ts : List TokenRecord) (i : ℕ) (d : TokenRecord) → first_out_of_order ts ≡ None → i < length ts → (get_or ts i d).dst_line < lines_through (last ts)
reached [] i d order h = absurd (omega (arith, h))
reached (t ∷ ts) i d order h = reached-of t ts i d (in_order-from_0 (t ∷ ts) order).1 h

module _ (tokens : List TokenRecord) (i line : ℕ) (t : TokenRecord) (within : i < length tokens) (read : get_or tokens i t ≡ t) where
  cut_off : drop i tokens ≡ t ∷ drop (i + 1) tokens
  cut_off =
      let next : suc i ≡ i + 1 = omega arith in
      drop-cons tokens i t within ∙ ap (λ u. u ∷ drop (suc i) tokens) read ∙ ap (λ k. t ∷ drop k tokens) next

  pub next-from : IsFrom line (drop i tokens) → (line ≤ t.dst_line) × IsFrom t.dst_line (drop (i + 1) tokens)
  next-from p = subst (IsFrom line) cut_off p

  pub back-from : line ≤ t.dst_line → IsFrom t.dst_line (drop (i + 1) tokens) → IsFrom line (drop i tokens)
  back-from h p = subst (IsFrom line) (sym cut_off) (h, p)

  counts-it : (n : ℕ) → t.dst_line < n → count_before_line n (take (i + 1) tokens) ≡ count_before_line n (take i tokens) + 1
  counts-it n h = count_by_more_yes (λ u. nat_lt (token_line u) n) tokens i t within (ap (λ u. nat_lt (token_line u) n) read ∙ grind (arith, h))

  passes-it : (n : ℕ) → n ≤ t.dst_line → count_before_line n (take (i + 1) tokens) ≡ count_before_line n (take i tokens)
  passes-it n h = count_by_more_no (λ u. nat_lt (token_line u) n) tokens i t within (ap (λ u. nat_lt (token_line u) n) read ∙ grind (arith, h))

  module _ (not_before : line ≤ t.dst_line) (all : (n : ℕ) → line < n → count_before_line n (take i tokens) ≡ i) where
    pub all-more : (n : ℕ) → t.dst_line < n → count_before_line n (take (i + 1) tokens) ≡ i + 1
    all-more n h = omega (arith, counts-it n h, all n (omega (arith, h, not_before)))

    few : (n : ℕ) → count_before_line n (take i tokens) ≤ i
    few n = omega (arith, count_by-le-length (λ u. nat_lt (token_line u) n) (take i tokens), length-take i tokens, within)

    end-by : (b s : Bool) (ends : List ℕ) (n d : ℕ) → nat_lt n t.dst_line ≡ b → nat_lt t.dst_line n ≡ s → n < length ends → EndsOf (take i tokens) ends
        → max (count_before_line n (take (i + 1) tokens)) (get_or (set ends t.dst_line (i + 1)) n d) ≡ count_before_line (n + 1) (take (i + 1) tokens)
    end-by true s ends n d e f h was =
        let lt : n < t.dst_line = grind (arith, e) in
        let other : n ≢ t.dst_line = omega (arith, lt) in
        let old = was n d h in
        let same = get_or-set_other ends t.dst_line n (i + 1) d other in
        let here = passes-it n (omega (arith, lt)) in
        let next = passes-it (n + 1) (omega (arith, lt)) in
        ap (λ k. max k (get_or (set ends t.dst_line (i + 1)) n d)) here ∙ ap (max (count_before_line n (take i tokens))) same ∙ old ∙ sym next
    end-by false true ends n d e f h was =
        let gt : t.dst_line < n = grind (arith, f) in
        let other : n ≢ t.dst_line = omega (arith, gt) in
        let old = was n d h in
        let same = get_or-set_other ends t.dst_line n (i + 1) d other in
        let here = all-more n gt in
        let next = all-more (n + 1) (omega (arith, gt)) in
        let was_all = all (n + 1) (omega (arith, gt, not_before)) in
        grind (arith, old, same, here, next, was_all)
    end-by false false ends n d e f h was =
        let is : n ≡ t.dst_line = (let le : t.dst_line ≤ n = grind (arith, e) in let ge : n ≤ t.dst_line = grind (arith, f) in omega (arith, le, ge)) in
        let now = get_or-set_at ends t.dst_line n (i + 1) d is (omega (arith, is, h)) in
        let here = passes-it n (omega (arith, is)) in
        let next = all-more (n + 1) (omega (arith, is)) in
        grind (arith, now, here, next, few n)

    pub ends-more : (ends : List ℕ) → EndsOf (take i tokens) ends → length (set ends t.dst_line (i + 1)) ≡ length ends → EndsOf (take (i + 1) tokens) (set ends t.dst_line (i + 1))
    ends-more ends was size n d h = end-by (nat_lt n t.dst_line) (nat_lt t.dst_line n) ends n d refl refl (omega (arith, h, size)) was
