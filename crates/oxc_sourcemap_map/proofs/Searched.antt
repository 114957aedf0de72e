-- What a search of a place knows, and what the definitions find.
use Rattle.std.proofs.Common.{◌≡◌, ap, ◌∙◌, ℕ, ◌+◌, ◌-◌, ◌<◌, ◌≤◌, List, length, get_or, Some, None}
use Rattle.std.proofs.Common.{inl, inr, arith}
use Rattle.std.proofs.lemmas.Bool.{cases_lt}
use Rattle.std.proofs.lemmas.List.{length-map}
use Rattle.std.proofs.lemmas.List.Elements.{recursion_from_All}
use Rattle.oxc_sourcemap_tokens.specs.Token.{TokenRecord, IsInBounds}
use Rattle.oxc_sourcemap_map.specs.Reverse.{generated_for, generated_from}
use Rattle.oxc_sourcemap_map.specs.Places.{original_number, token_original, no_token, listed}
use Rattle.oxc_sourcemap_map.specs.Places.{IsOrderOf}
use Rattle.oxc_sourcemap_map.proofs.ReverseFound.{for_hit, for_near, for_none, from_near}
use Rattle.oxc_sourcemap_map.proofs.ReverseFound.{from_nothing}
use Rattle.oxc_sourcemap_map.proofs.ReverseFound.{from_hit, same_read}

module _ (tokens : List TokenRecord) (order : List ℕ) (ord : IsOrderOf tokens order) (s l col place start : ℕ) (small : l < 4294967296) (near : col < 4294967296) (is : place ≡ original_number s l col)
    (bound : start ≤ length order)
    (before : (i : ℕ) (d : TokenRecord) → i < start → token_original (get_or (listed tokens order) i d) < place)
    (others : (i : ℕ) (d : TokenRecord) → start ≤ i → i < length order → place ≤ token_original (get_or (listed tokens order) i d)) where
  long : length (listed tokens order) ≡ length order
  long = length-map order (λ i. get_or tokens i no_token)

  within : start ≤ length (listed tokens order)
  within = omega (arith, bound, long)

  lower : (i : ℕ) (d : TokenRecord) → i < start → token_original (get_or (listed tokens order) i d) < original_number s l col
  lower i d h = omega (arith, before i d h, is)

  upper : (i : ℕ) (d : TokenRecord) → start ≤ i → i < length (listed tokens order) → original_number s l col ≤ token_original (get_or (listed tokens order) i d)
  upper i d h w = omega (arith, others i d h (omega (arith, w, long)), is)

  past : (start < length order → token_original (get_or (listed tokens order) start no_token) ≡ place → ⊥) → (i : ℕ) (d : TokenRecord) → start ≤ i → i < length (listed tokens order) → original_number s l col < token_original (get_or (listed tokens order) i d)
  past miss i d h w =
      let lt : start < length order = omega (arith, h, w, long) in
      let first = others start no_token (omega arith) lt in
      let up = ord.rises start i no_token h w in
      let same = ap token_original (same_read (listed tokens order) i no_token d w) in
      elim (cases_lt place (token_original (get_or (listed tokens order) start no_token))) [
        | inl more ↦ omega (arith, more, up, same, is)
        | inr less ↦ absurd (miss lt (omega (arith, first, less)))
      ]

  pub for_found : start < length order → token_original (get_or (listed tokens order) start no_token) ≡ place → generated_for s l col tokens ≡ Some (get_or (listed tokens order) start no_token)
  for_found lt e =
      for_hit tokens order ord (recursion_from_All IsInBounds tokens ord.in_bounds) s l small col start near within lower upper no_token (omega (arith, lt, long)) (e ∙ is)

  pub for_before : (start < length order → token_original (get_or (listed tokens order) start no_token) ≡ place → ⊥) → 0 < start → original_number s l 0 ≤ token_original (get_or (listed tokens order) (start - 1) no_token)
      → generated_for s l col tokens ≡ Some (get_or (listed tokens order) (start - 1) no_token)
  for_before miss some on =
      for_near tokens order ord (recursion_from_All IsInBounds tokens ord.in_bounds) s l small col start near within lower upper (past miss) ord.rises no_token (start - 1) (omega (arith, some)) on

  pub for_nothing : (start < length order → token_original (get_or (listed tokens order) start no_token) ≡ place → ⊥) → (0 < start → token_original (get_or (listed tokens order) (start - 1) no_token) < original_number s l 0)
      → generated_for s l col tokens ≡ None
  for_nothing miss off =
      for_none tokens order ord (recursion_from_All IsInBounds tokens ord.in_bounds) s l small col start near within lower upper (past miss) ord.rises
      (λ d m e.
      let k : m ≡ start - 1 = omega (arith, e) in
      let same = ap token_original (same_read (listed tokens order) m d no_token (omega (arith, e, within))) in
      let at = ap (λ i. token_original (get_or (listed tokens order) i no_token)) k in
      omega (arith, off (omega (arith, e)), same, at))

  pub from_after : (start < length order → token_original (get_or (listed tokens order) start no_token) ≡ place → ⊥) → start < length order → token_original (get_or (listed tokens order) start no_token) < original_number s l 0 + 4294967296
      → generated_from s l col tokens ≡ Some (get_or (listed tokens order) start no_token)
  from_after miss lt on =
      from_near tokens order ord (recursion_from_All IsInBounds tokens ord.in_bounds) s l small col start near within lower upper (past miss) ord.rises no_token (omega (arith, lt, long)) (omega (arith, on))

  pub from_none_left : (start < length order → original_number s l 0 + 4294967296 ≤ token_original (get_or (listed tokens order) start no_token)) → generated_from s l col tokens ≡ None
  from_none_left off =
      from_nothing tokens order ord (recursion_from_All IsInBounds tokens ord.in_bounds) s l small col start near within lower upper (past (λ lt e. omega (arith, off lt, e, is, near))) ord.rises
      (λ d lt.
      let same = ap token_original (same_read (listed tokens order) start d no_token lt) in
      omega (arith, off (omega (arith, lt, long)), same))

  pub from_found : (end : ℕ) → start < length order → token_original (get_or (listed tokens order) start no_token) ≤ place → end ≤ length order
      → ((i : ℕ) (d : TokenRecord) → i < end → token_original (get_or (listed tokens order) i d) < place + 1)
      → ((i : ℕ) (d : TokenRecord) → end ≤ i → i < length order → place + 1 ≤ token_original (get_or (listed tokens order) i d))
      → (start < end) × (generated_from s l col tokens ≡ Some (get_or (listed tokens order) (end - 1) no_token))
  from_found end lt le most below above =
      let more : start < end = elim (cases_lt start end) [
        | inl h ↦ h
        | inr h ↦ (let k = above start no_token h lt in absurd (omega (arith, k, le)))
      ] in
      let m = end - 1 in
      let high = below m no_token (omega (arith, more)) in
      let low = others m no_token (omega (arith, more)) (omega (arith, more, most)) in
      let e : token_original (get_or (listed tokens order) m no_token) ≡ original_number s l col = omega (arith, high, low, is) in (
        more,
        from_hit tokens order ord (recursion_from_All IsInBounds tokens ord.in_bounds) s l small col start near within lower upper m no_token (omega (arith, more, most, long)) e
            (λ i d g w. omega (arith, above i d (omega (arith, g, more)) (omega (arith, w, long)), is)),
      )
