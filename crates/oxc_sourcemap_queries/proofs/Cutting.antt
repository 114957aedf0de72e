-- Cuts go forward, and in sorted tokens each piece is the longest run of places at which the same is found.
use Rattle.std.proofs.Common.{◌≡◌, ◌≢◌, refl, sym, ap, subst, ◌∙◌, ℕ, zero, suc, ◌+◌, ◌-◌, ◌<◌, ◌≤◌}
use Rattle.std.proofs.Common.{◌==◌, nat_lt, nat_le, Bool, true, false, List, ◌∷◌, map, length}
use Rattle.std.proofs.Common.{get_or, drop, slice_get, min, Option, Some, None, is_some}
use Rattle.std.proofs.Common.{if◌then◌else◌, inl, inr, arith}
use Rattle.std.proofs.lemmas.Bool.{cases_lt}
use Rattle.std.proofs.lemmas.Bool.Decides.{nat_tests}
use Rattle.std.proofs.lemmas.List.{length-drop, get_or-drop}
use Rattle.std.proofs.lemmas.List.Sums.{prefix_len-le-length, prefix_len_passes, prefix_len_stops}
use Rattle.std.specs.List.Sorted.{IsNonDecreasingBy}
use Rattle.std.specs.Option.{option_map_or}
use Rattle.oxc_sourcemap_tokens.specs.Token.{TokenRecord, AreInBounds}
use Rattle.oxc_sourcemap_parts.specs.Sorted.{are_tokens_sorted}
use Rattle.oxc_sourcemap_queries.specs.declared.pieces.cuts.Cut.{Cut}
use Rattle.oxc_sourcemap_queries.specs.RangePieces.{place, line_of, index_at_position, runs_from}
use Rattle.oxc_sourcemap_queries.specs.RangePieces.{piece_of, pieces_of, DoCover}
use Rattle.oxc_sourcemap_queries.specs.Cuts.{token_position, holder, holder_before, passed_count}
use Rattle.oxc_sourcemap_queries.specs.Cuts.{line_end, end_before, run_end, cut_at, pieces_left}
use Rattle.oxc_sourcemap_queries.specs.Cuts.{AreLeft, IsStart, no_token}
use Rattle.oxc_sourcemap_queries.proofs.Order.{places-rise}
use Rattle.oxc_sourcemap_queries.proofs.Found.{there, not_there, found-is, is_other_number}
use Rattle.oxc_sourcemap_queries.proofs.Runs.{first-run, back}

abbrev d : TokenRecord
d = no_token

module _ (ts : List TokenRecord) (next p : ℕ) (within : next ≤ length ts) where
  abbrev count : ℕ
  count = passed_count ts next p

  -- the first token after the place
  abbrev after : ℕ
  after = next + count

  pub after-within : after ≤ length ts
  after-within = omega (arith, within, prefix_len-le-length (λ t. nat_le (token_position t) p) (drop next ts), length-drop next ts)

  pub after-past : after < length ts → p < token_position (get_or ts after d)
  after-past h =
      let stops = prefix_len_stops (λ t. nat_le (token_position t) p) (drop next ts) d (omega (arith, h, length-drop next ts)) in
      let is : nat_le (token_position (get_or ts after d)) p ≡ false = ap (λ t. nat_le (token_position t) p) (sym (get_or-drop next ts count d)) ∙ stops in
      grind (arith, nat_tests, is)

  passes : (i : ℕ) → next ≤ i → i < after → token_position (get_or ts i d) ≤ p
  passes i low high =
      let pass = prefix_len_passes (λ t. nat_le (token_position t) p) (drop next ts) (i - next) d (omega (arith, low, high)) in
      let same : next + (i - next) ≡ i = omega (arith, low) in
      let is : nat_le (token_position (get_or ts i d)) p ≡ true = ap (λ t. nat_le (token_position t) p) (sym (get_or-drop next ts (i - next) d ∙ ap (λ j. get_or ts j d) same)) ∙ pass in
      grind (arith, nat_tests, is)

  before-end : (end : ℕ) → p < end → (p < end_before ts after end) × (end_before ts after end ≤ end) × (after < length ts → end_before ts after end ≤ token_position (get_or ts after d))
      × (end_before ts after end < end → (after < length ts) × (end_before ts after end ≡ token_position (get_or ts after d)))
  before-end end some = elim (cases_lt after (length ts)) [
    | inl lt ↦
        (let is = there (λ t. min (token_position t) end) end ts after d lt in
        (omega (arith, is, after-past lt, some), omega (arith, is), (λ _. omega (arith, is)), (λ less. (lt, omega (arith, is, less)))))
    | inr ge ↦
        (let is = not_there (λ t. min (token_position t) end) end ts after ge in
        (omega (arith, is, some), omega (arith, is), (λ lt. absurd (omega (arith, lt, ge))), (λ less. absurd (omega (arith, is, less)))))
  ]

  run-between : (found : Option ℕ) (end : ℕ) → p < end → (p < run_end ts after found p end) × (run_end ts after found p end ≤ end_before ts after end)
  run-between None end some = ((before-end end some).0, omega arith)
  run-between (Some i) end some = (omega (arith, (before-end end some).0, back p), omega arith)

  cut-by : (c : Bool) (e end : ℕ) → p < end → p < e → e ≤ end → (p < (if c then p + 1 else e)) × ((if c then p + 1 else e) ≤ end)
  cut-by true e end some low high = (omega arith, omega (arith, some))
  cut-by false e end some low high = (low, high)

  -- a cut goes forward, and not past the end of the range
  pub cut-forward : (end : ℕ) → p < end → (p < (cut_at ts next p end).end) × ((cut_at ts next p end).end ≤ end)
  cut-forward end some =
      let found = holder ts next p in
      let run = run-between found end some in
      cut-by (nat_lt 1 count) (run_end ts after found p end) end some run.0 (omega (arith, run.1, (before-end end some).1))

-- the pieces that are left cover what is left of the range
pub left-cover : (ts : List TokenRecord) (next p end n : ℕ) → AreLeft ts next p end n → DoCover p end (pieces_left ts next p end n)
left-cover ts next p end zero h = h
left-cover ts next p end (suc n) h =
    let cut = cut_at ts next p end in
    let forward = cut-forward ts next p h.0 end h.1 in
    let same = back cut.end in
    (back p, omega (arith, same, forward.0), omega (arith, same, forward.1), subst (λ x. DoCover x end (pieces_left ts cut.next cut.end end n)) (sym same) (left-cover ts cut.next cut.end end n h.2))

-- there are as many as are left
pub left-long : (ts : List TokenRecord) (next p end n : ℕ) → length (pieces_left ts next p end n) ≡ n
left-long ts next p end zero = refl
left-long ts next p end (suc n) =
    let cut = cut_at ts next p end in
    let more = left-long ts cut.next cut.end end n in
    omega (arith, more)

-- a cut that is made goes forward, and what is left of the range has one piece fewer
pub cut-goes : (ts : List TokenRecord) (next p end : ℕ) (cut : Cut) → cut ≡ cut_at ts next p end → next ≤ length ts → p < end → (p < cut.end) × (cut.end ≤ end) × (cut.next ≤ length ts)
cut-goes ts next p end cut e within some =
    let go = cut-forward ts next p within end some in
    subst (λ k. (p < k.end) × (k.end ≤ end) × (k.next ≤ length ts)) (sym e) (go.0, go.1, after-within ts next p within)

pub cut-left : (ts : List TokenRecord) (next p end n : ℕ) (cut : Cut) → cut ≡ cut_at ts next p end → next ≤ length ts → p < end → AreLeft ts cut.next cut.end end n → AreLeft ts next p end (suc n)
cut-left ts next p end n cut e within some h = (within, some, subst (λ k. AreLeft ts k.next k.end end n) e h)

-- where some are left, the first is cut off
pub left-more : (ts : List TokenRecord) (next p end n : ℕ) → n ≢ 0 → AreLeft ts next p end n
    → (next ≤ length ts) × (p < end) × AreLeft ts (cut_at ts next p end).next (cut_at ts next p end).end end (n - 1)
left-more ts next p end zero some h = absurd (some refl)
left-more ts next p end (suc n) some h =
    let cut = cut_at ts next p end in
    let same : suc n - 1 ≡ n = omega arith in
    (h.0, h.1, subst (λ k. AreLeft ts cut.next cut.end end k) (sym same) h.2)

pub pieces-more : (ts : List TokenRecord) (next p end n : ℕ) → n ≢ 0 → pieces_left ts next p end n
    ≡ piece_of ts (record { start = p; end = (cut_at ts next p end).end; found = (cut_at ts next p end).found }) ∷ pieces_left ts (cut_at ts next p end).next (cut_at ts next p end).end end (n - 1)
pieces-more ts next p end zero some = absurd (some refl)
pieces-more ts next p end (suc n) some =
    let cut = cut_at ts next p end in
    let same : suc n - 1 ≡ n = omega arith in
    ap (λ k. piece_of ts (record { start = p; end = cut.end; found = cut.found }) ∷ pieces_left ts cut.next cut.end end k) (sym same)

-- ---- in sorted tokens
-- an index that is found before another is below it, and one that is found for it is not below the one before
before-below : (ts : List TokenRecord) (n p i : ℕ) → holder_before ts n p ≡ Some i → i + 1 ≡ n
before-below ts zero p i h = absurd (cc (h))
before-below ts (suc n) p i h =
    elim (option_map_or (λ t. t.dst_line == line_of p) (slice_get ts n) false) as (λ c. (if c then Some n else None) ≡ Some i → i + 1 ≡ suc n) [
      | true ↦ (λ e. let same : n ≡ i = cc (e) in omega (arith, same))
      | false ↦ (λ e. absurd (cc (e)))
    ] h

found-near : (ts : List TokenRecord) (n p i : ℕ) → holder ts n p ≡ Some i → n ≤ i + 1
found-near ts n p i h =
    elim (option_map_or (λ t. token_position t == p) (slice_get ts n) false) as (λ c. (if c then Some n else holder_before ts n p) ≡ Some i → n ≤ i + 1) [
      | true ↦ (λ e. let same : n ≡ i = cc (e) in omega (arith, same))
      | false ↦ (λ e. omega (arith, before-below ts n p i e))
    ] h

hit-here : (ts : List TokenRecord) (n p : ℕ) → n < length ts → token_position (get_or ts n d) ≡ p → holder ts n p ≡ Some n
hit-here ts n p lt e =
    let is : (token_position (get_or ts n d) == p) ≡ true = grind (arith, nat_tests, e) in
    ap (λ c. if c then Some n else holder_before ts n p) (there (λ t. token_position t == p) false ts n d lt ∙ is)

pub no-hit : (ts : List TokenRecord) (n p : ℕ) → (n < length ts → token_position (get_or ts n d) ≢ p) → holder ts n p ≡ holder_before ts n p
no-hit ts n p other = ap (λ c. if c then Some n else holder_before ts n p) (elim (cases_lt n (length ts)) [
  | inl lt ↦ there (λ t. token_position t == p) false ts n d lt ∙ is_other_number _ p (other lt)
  | inr ge ↦ not_there (λ t. token_position t == p) false ts n ge
])

-- what is found before an index, by the line of the token there
on-line : (ts : List TokenRecord) (i p : ℕ) → i < length ts → (get_or ts i d).dst_line ≡ line_of p → holder_before ts (suc i) p ≡ Some i
on-line ts i p lt e =
    let is : ((get_or ts i d).dst_line == line_of p) ≡ true = grind (arith, nat_tests, e) in
    ap (λ c. if c then Some i else None) (there (λ t. t.dst_line == line_of p) false ts i d lt ∙ is)

pub off-line : (ts : List TokenRecord) (i p : ℕ) → i < length ts → (get_or ts i d).dst_line ≢ line_of p → holder_before ts (suc i) p ≡ None
off-line ts i p lt h = ap (λ c. if c then Some i else None) (there (λ t. t.dst_line == line_of p) false ts i d lt ∙ is_other_number _ _ h)

-- the same is found before an index at a later place, up to the end of the line
pub same-before : (ts : List TokenRecord) (n p q : ℕ) → n ≤ length ts → ((i : ℕ) → i < n → token_position (get_or ts i d) ≤ p) → p ≤ q → (is_some (holder_before ts n p) ≡ true → q < line_end p)
    → holder_before ts n q ≡ holder_before ts n p
same-before ts zero p q within low le line = refl
same-before ts (suc i) p q within low le line =
    let lt : i < length ts = omega (arith, within) in
    let before = low i (omega arith) in
    elim ((get_or ts i d).dst_line == line_of p) as (λ c. ((get_or ts i d).dst_line == line_of p) ≡ c → holder_before ts (suc i) q ≡ holder_before ts (suc i) p) [
      | true ↦ (λ c.
          let same : (get_or ts i d).dst_line ≡ line_of p = grind (arith, nat_tests, c) in
          let here = on-line ts i p lt same in
          let less = line (ap is_some here) in
          on-line ts i q lt (omega (arith, same, less, le)) ∙ sym here)
      | false ↦ (λ c.
          let other : (get_or ts i d).dst_line ≢ line_of p = grind (arith, nat_tests, c) in
          off-line ts i q lt (λ e. other (omega (arith, e, le, before))) ∙ sym (off-line ts i p lt other))
    ] refl

module _ (ts : List TokenRecord) (sorted : are_tokens_sorted ts ≡ true) (bounds : AreInBounds ts) (next p end : ℕ) (start : IsStart ts p next) (some : p < end) where
  abbrev total : ℕ
  total = passed_count ts next p

  abbrev past : ℕ
  past = next + total

  abbrev found : Option ℕ
  found = holder ts next p

  abbrev stop : ℕ
  stop = (cut_at ts next p end).end

  rises : IsNonDecreasingBy token_position ts
  rises = places-rise ts sorted bounds

  pub not_after : (i : ℕ) → i < past → token_position (get_or ts i d) ≤ p
  not_after i h = elim (cases_lt i next) [
    | inl lt ↦ omega (arith, start.before i lt)
    | inr ge ↦ passes ts next p start.within i ge h
  ]

  -- places after this one, up to the next token
  pub starts-at : (q : ℕ) → p < q → (past < length ts → q ≤ token_position (get_or ts past d)) → IsStart ts q past
  starts-at q low high = record {
    within = after-within ts next p start.within;
    before = λ i h. omega (arith, low, not_after i h);
    others = λ i h l. omega (arith, high (omega (arith, h, l)), rises past i d h l);
  }

  -- a cut is not past the next token
  not_past-by : (c : Bool) → past < length ts → (if c then p + 1 else run_end ts past found p end) ≤ token_position (get_or ts past d)
  not_past-by true lt = omega (arith, after-past ts next p start.within lt)
  not_past-by false lt = omega (arith, (run-between ts next p start.within found end some).1, (before-end ts next p start.within end some).2 lt)

  not_past : past < length ts → stop ≤ token_position (get_or ts past d)
  not_past lt = not_past-by (nat_lt 1 total) lt

  forward : (p < stop) × (stop ≤ end)
  forward = cut-forward ts next p start.within end some

  -- how many tokens lie before the cut
  pub stop-start : IsStart ts stop past
  stop-start = starts-at stop forward.0 not_past

  pub found-here : index_at_position ts p ≡ found
  found-here = found-is ts sorted bounds p next start

  found-after : (q : ℕ) → p < q → q ≤ stop → index_at_position ts q ≡ holder ts past q
  found-after q low high = found-is ts sorted bounds q past (starts-at q low (λ lt. omega (arith, high, not_past lt)))

  -- with one token at the place or none, what is found is found before the next token
  pub found-before : (n : ℕ) → n ≡ total → n ≤ 1 → found ≡ holder_before ts past p
  found-before zero e few =
      let same : past ≡ next = omega (arith, e) in
      no-hit ts next p (λ lt is. omega (arith, is, same, ap (λ i. token_position (get_or ts i d)) same, after-past ts next p start.within (omega (arith, lt, same))))
      ∙ ap (λ i. holder_before ts i p) (sym same)
  found-before (suc n) e few =
      let same : past ≡ suc next = omega (arith, e, few) in
      let lt : next < length ts = omega (arith, same, after-within ts next p start.within) in
      let low = start.others next (omega arith) lt in
      let high = not_after next (omega (arith, same)) in
      let is : token_position (get_or ts next d) ≡ p = omega (arith, low, high) in
      let on : (get_or ts next d).dst_line ≡ line_of p = omega (arith, is, (bounds next d lt).dst_col) in
      hit-here ts next p lt is ∙ sym (on-line ts next p lt on) ∙ ap (λ i. holder_before ts i p) (sym same)

  line-left : (o : Option ℕ) (q : ℕ) → q < run_end ts past o p end → is_some o ≡ true → q < line_end p
  line-left None q h e = cc (e)
  line-left (Some i) q h e = omega (arith, h)

  run-same : nat_lt 1 total ≡ false → (q : ℕ) → p < q → q < run_end ts past found p end → q ≤ stop → index_at_position ts q ≡ found
  run-same few q low high le =
      let one : total ≤ 1 = grind (arith, nat_tests, few) in
      let is = found-before total refl one in
      let before = before-end ts next p start.within end some in
      let run = run-between ts next p start.within found end some in
      found-after q low le
      ∙ no-hit ts past q (λ lt e. omega (arith, e, high, run.1, before.2 lt))
      ∙ same-before ts past p q (after-within ts next p start.within) not_after (omega (arith, low)) (λ s. line-left found q high (ap is_some is ∙ s))
      ∙ sym is

  same-by : (c : Bool) → nat_lt 1 total ≡ c → (q : ℕ) → p ≤ q → q < (if c then p + 1 else run_end ts past found p end) → q ≤ stop → index_at_position ts q ≡ found
  same-by true e q low high le = (let same : q ≡ p = omega (arith, low, high) in ap (index_at_position ts) same ∙ found-here)
  same-by false e q low high le = elim (cases_lt p q) [
    | inl lt ↦ run-same e q lt high le
    | inr ge ↦ (let same : q ≡ p = omega (arith, low, ge) in ap (index_at_position ts) same ∙ found-here)
  ]

  -- up to the cut the same is found
  pub same-found : (q : ℕ) → p ≤ q → q < stop → index_at_position ts q ≡ found
  same-found q low high = same-by (nat_lt 1 total) refl q low high (omega (arith, high))

  -- of several tokens at the place the first is found there, and it is not found again
  several-other : nat_lt 1 total ≡ true → holder ts past stop ≢ found
  several-other many is =
      let more : 1 < total = grind (arith, nat_tests, many) in
      let lt : next < length ts = omega (arith, more, after-within ts next p start.within) in
      let low = start.others next (omega arith) lt in
      let high = not_after next (omega (arith, more)) in
      let here : found ≡ Some next = hit-here ts next p lt (omega (arith, low, high)) in
      omega (arith, found-near ts past stop next (is ∙ here), more)

  -- an index is found only where its token is the last before the place, on the line
  run-ends : (o : Option ℕ) (x : ℕ) → x ≡ run_end ts past o p end → x < end → (past < length ts → token_position (get_or ts past d) ≢ x) → (is_some o ≡ true) × (x ≡ line_end p)
  run-ends None x e less other =
      let before = before-end ts next p start.within end some in
      let at = before.3 (omega (arith, e, less)) in
      absurd (other at.0 (omega (arith, at.1, e)))
  run-ends (Some i) x e less other = (
    refl,
    elim (cases_lt (end_before ts past end) (line_end p)) [
      | inl lt ↦
          (let before = before-end ts next p start.within end some in
          let at = before.3 (omega (arith, e, less, lt)) in
          absurd (other at.0 (omega (arith, at.1, e, lt))))
      | inr ge ↦ omega (arith, e, ge)
    ],
  )

  line-other : (n : ℕ) → n ≡ past → (x : ℕ) → x ≡ line_end p → holder_before ts n x ≡ None
  line-other zero e x is = refl
  line-other (suc i) e x is =
      let lt : i < length ts = omega (arith, e, after-within ts next p start.within) in
      off-line ts i x lt (λ same. omega (arith, same, is, not_after i (omega (arith, e)), back p))

  none-is_none : (o : Option ℕ) → is_some o ≡ true → None ≢ o
  none-is_none None e h = cc (e)
  none-is_none (Some i) e h = cc (h)

  line-case : (x : ℕ) → x ≡ run_end ts past found p end → x < end → (past < length ts → token_position (get_or ts past d) ≢ x) → holder ts past x ≢ found
  line-case x e less other is =
      let ends = run-ends found x e less other in
      none-is_none found ends.0 (sym (no-hit ts past x other ∙ line-other past refl x ends.1) ∙ is)

  run-other : nat_lt 1 total ≡ false → (x : ℕ) → x ≡ run_end ts past found p end → x < end → holder ts past x ≢ found
  run-other few x e less is =
      let one : total ≤ 1 = grind (arith, nat_tests, few) in
      let before = found-before total refl one in
      elim (cases_lt past (length ts)) [
        | inl lt ↦ elim (token_position (get_or ts past d) == x) as (λ c. (token_position (get_or ts past d) == x) ≡ c → ⊥) [
          | true ↦ (λ c.
              let at : token_position (get_or ts past d) ≡ x = grind (arith, nat_tests, c) in
              let i = before-below ts past p past (sym before ∙ sym is ∙ hit-here ts past x lt at) in
              omega (arith, i))
          | false ↦ (λ c. let other : token_position (get_or ts past d) ≢ x = grind (arith, nat_tests, c) in line-case x e less (λ l. other) is)
        ] refl
        | inr ge ↦ line-case x e less (λ l. absurd (omega (arith, l, ge))) is
      ]

  other-by : (c : Bool) → nat_lt 1 total ≡ c → (x : ℕ) → x ≡ stop → x ≡ (if c then p + 1 else run_end ts past found p end) → x < end → holder ts past x ≢ found
  other-by true e x same is less = subst (λ y. holder ts past y ≢ found) (sym same) (several-other e)
  other-by false e x same is less = run-other e x is less

  -- and at the cut another
  pub other-found : stop < end → index_at_position ts stop ≢ found
  other-found less is = other-by (nat_lt 1 total) refl stop refl refl less (sym (found-after stop forward.0 (omega arith)) ∙ is)

-- the pieces that are left are those of what is left of the range
pub left-runs : (ts : List TokenRecord) (next p end n : ℕ) → are_tokens_sorted ts ≡ true → AreInBounds ts → IsStart ts p next → AreLeft ts next p end n
    → pieces_left ts next p end n ≡ map (piece_of ts) (runs_from (index_at_position ts) p (end - p))
left-runs ts next p end zero sorted bounds start h =
    let none : end - p ≡ 0 = omega (arith, h) in
    ap (λ k. map (piece_of ts) (runs_from (index_at_position ts) p k)) (sym none)
left-runs ts next p end (suc n) sorted bounds start h =
    let cut = cut_at ts next p end in
    let go = forward ts sorted bounds next p end start h.1 in
    let more = left-runs ts cut.next cut.end end n sorted bounds (stop-start ts sorted bounds next p end start h.1) h.2 in
    ap (λ ps. piece_of ts (record { start = p; end = cut.end; found = cut.found }) ∷ ps) more
    ∙ sym (ap (map (piece_of ts)) (first-run (index_at_position ts) (cut.end - p - 1) p cut.end (end - cut.end) (end - p) cut.found (omega (arith, go.0)) (omega (arith, go.0, go.1))
    (same-found ts sorted bounds next p end start h.1) (λ some. other-found ts sorted bounds next p end start h.1 (omega (arith, some)))))

-- ---- the pieces of a range that begins and ends at these positions
pub new-cover : (ts : List TokenRecord) (next p end n start stop : ℕ) → p ≡ start → end ≡ stop → AreLeft ts next p end n → DoCover start stop (pieces_left ts next p end n)
new-cover ts next p end n start stop e f h =
    subst (λ x. DoCover x stop (pieces_left ts next p end n)) e (subst (λ y. DoCover p y (pieces_left ts next p end n)) f (left-cover ts next p end n h))

pub new-pieces : (ts : List TokenRecord) (next p end n line col end_line end_col : ℕ) → p ≡ place line col → end ≡ place end_line end_col → are_tokens_sorted ts ≡ true → AreInBounds ts → IsStart ts p next
    → AreLeft ts next p end n → pieces_left ts next p end n ≡ pieces_of ts line col end_line end_col
new-pieces ts next p end n line col end_line end_col e f sorted bounds start h =
    left-runs ts next p end n sorted bounds start h
    ∙ ap (λ x. map (piece_of ts) (runs_from (index_at_position ts) x (end - x))) e
    ∙ ap (λ y. map (piece_of ts) (runs_from (index_at_position ts) (place line col) (y - place line col))) f
