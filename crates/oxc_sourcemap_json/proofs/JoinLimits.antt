-- The test of limits (`JoinLimits`) decides `IsWithinLimits`.
use Rattle.std.proofs.Common.{ℕ, ◌<◌, ◌≤◌, nat_lt, List, length, refl, arith, Option, Some, None}
use Rattle.std.specs.Bool.{Decides}
use Rattle.std.specs.List.{list_all}
use Rattle.std.specs.Option.{IfSome}
use Rattle.std.proofs.lemmas.Bool.Decides.{Decides-ltb, Decides-and, Decides-like, Decides-by_and}
use Rattle.oxc_sourcemap_tokens.specs.Token.{TokenRecord, IsInBounds}
use Rattle.oxc_sourcemap_parts.specs.Record.{MapRecord}
use Rattle.oxc_sourcemap_join.specs.Joined.{AreEntriesInBounds, IsWithinLimits}
use Rattle.oxc_sourcemap_json.specs.JoinLimits.{is_id_in_bounds, is_token_in_bounds}
use Rattle.oxc_sourcemap_json.specs.JoinLimits.{are_entries_in_bounds, is_map_within_limits}

id-decided : (o : Option ℕ) → Decides (is_id_in_bounds o) (IfSome o (λ n. n < 4294967295))
id-decided None = (λ e. tt, λ h. refl)
id-decided (Some n) = Decides-ltb n 4294967295

token-decided : (t : TokenRecord) → Decides (is_token_in_bounds t) (IsInBounds t)
token-decided t =
    Decides-like (is_token_in_bounds t)
    (λ h. record { dst_line = h.0; dst_col = h.1.0; src_line = h.1.1.0; src_col = h.1.1.1.0; source_id = h.1.1.1.1.0; name_id = h.1.1.1.1.1 })
    (λ b. (b.dst_line, (b.dst_col, (b.src_line, (b.src_col, (b.source_id, b.name_id))))))
    (Decides-and _ _ (Decides-ltb t.dst_line 4294967296) (Decides-and _ _ (Decides-ltb t.dst_col 4294967296) (Decides-and _ _ (Decides-ltb t.src_line 4294967296)
    (Decides-and _ _ (Decides-ltb t.src_col 4294967296) (Decides-and _ _ (id-decided t.source_id) (id-decided t.name_id))))))

entries-decided : (list : Option (List ℕ)) → Decides (are_entries_in_bounds list) (AreEntriesInBounds list)
entries-decided None = (λ e. tt, λ h. refl)
entries-decided (Some ids) =
    Decides-by_and (λ id. nat_lt id 4294967295) (λ id. id < 4294967295) (list_all (λ id. nat_lt id 4294967295)) (λ id. Decides-ltb id 4294967295) refl (λ x xs. refl) ids

count-decided : (n : ℕ) → Decides (nat_lt n 4294967296) (n ≤ 4294967295)
count-decided n = Decides-like (nat_lt n 4294967296) (λ h. omega (arith, h)) (λ h. omega (arith, h)) (Decides-ltb n 4294967296)

pub limits_decided : (r : MapRecord) → Decides (is_map_within_limits r) (IsWithinLimits r)
limits_decided r =
    Decides-like (is_map_within_limits r)
    (λ h. record { names = h.0; sources = h.1.0; tokens = h.1.1.0; in_bounds = h.1.1.1.0; ignore_list = h.1.1.1.1 })
    (λ w. (w.names, (w.sources, (w.tokens, (w.in_bounds, w.ignore_list)))))
    (Decides-and _ _ (count-decided (length r.names)) (Decides-and _ _ (count-decided (length r.sources)) (Decides-and _ _ (count-decided (length r.tokens))
    (Decides-and _ _ (Decides-by_and is_token_in_bounds IsInBounds (list_all is_token_in_bounds) token-decided refl (λ x xs. refl) r.tokens) (entries-decided r.ignore_list)))))
