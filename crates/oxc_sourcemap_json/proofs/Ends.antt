-- The last token of a join is where the last token of its maps is, though a join leaves repeats out.
use Rattle.std.proofs.Common.{◌≡◌, ℕ, ◌==◌, ◌&&◌, true, false, cond, List, [], ◌∷◌, ◌++◌, map, refl}
use Rattle.std.proofs.Common.{sym, ap, ◌∙◌, arith, length, Option, Some, None, option_map}
use Rattle.std.specs.List.{last_or}
use Rattle.std.proofs.lemmas.Bool.{and_parts}
use Rattle.std.proofs.lemmas.Bool.Decides.{nat_tests}
use Rattle.oxc_sourcemap_tokens.specs.Token.{TokenRecord, last}
use Rattle.oxc_sourcemap_parts.specs.Record.{MapRecord}
use Rattle.oxc_sourcemap_tokens.specs.declared.position.Position.{Position}
use Rattle.oxc_sourcemap_join.specs.Joined.{is_same_id, is_same_token, without_repeat, shifted}
use Rattle.oxc_sourcemap_join.specs.Joined.{added, added_all, nothing_joined, joined}
use Rattle.oxc_sourcemap_json.specs.Sections.{position_of, moved_position, token_positions}

last-after : {A : Type 0} (o : Option A) (xs ys : List A) → last_or o (xs ++ ys) ≡ last_or (last_or o xs) ys
last-after o [] ys = refl
last-after o (x ∷ xs) ys = last-after (Some x) xs ys

last-map : (o : Option TokenRecord) (ts : List TokenRecord) → option_map position_of (last_or o ts) ≡ last_or (option_map position_of o) (map position_of ts)
last-map o [] = refl
last-map o (t ∷ ts) = last-map (Some t) ts

same-position : (t u : TokenRecord) → is_same_token t u ≡ true → position_of t ≡ position_of u
same-position t u e =
    let ids = is_same_id t.source_id u.source_id && is_same_id t.name_id u.name_id in
    let source = t.src_line == u.src_line && (t.src_col == u.src_col && ids) in
    let p = and_parts (t.dst_line == u.dst_line) (t.dst_col == u.dst_col && source) e in
    let q = and_parts (t.dst_col == u.dst_col) source p.1 in
    let line : t.dst_line ≡ u.dst_line = grind (arith, nat_tests, p.0) in
    let column : t.dst_col ≡ u.dst_col = grind (arith, nat_tests, q.0) in
    rw (line, column) refl

-- a token that is left out is where the one before it is
last-kept : (o : Option TokenRecord) (ts : List TokenRecord) → option_map position_of (last_or o (without_repeat is_same_token o ts)) ≡ last_or (option_map position_of o) (map position_of ts)
last-kept None ts = last-map None ts
last-kept (Some t) [] = refl
last-kept (Some t) (u ∷ ts) =
    elim (is_same_token t u) as (λ b. is_same_token t u ≡ b → option_map position_of (last_or (Some t) (cond b ts (u ∷ ts))) ≡ last_or (Some (position_of u)) (map position_of ts)) [
      | true ↦ (λ e. last-map (Some t) ts ∙ ap (λ p. last_or (Some p) (map position_of ts)) (same-position t u e))
      | false ↦ (λ e. last-map (Some u) ts)
    ] refl

moved : (names sources : ℕ) (offset : Position) (ts : List TokenRecord) → map position_of (map (shifted names sources offset) ts) ≡ map (moved_position offset) ts
moved names sources offset [] = refl
moved names sources offset (t ∷ ts) = ap (λ ps. moved_position offset t ∷ ps) (moved names sources offset ts)

last-added : (r m : MapRecord) (offset : Position) → option_map position_of (last (added r m offset).tokens) ≡ last_or (option_map position_of (last r.tokens)) (map (moved_position offset) m.tokens)
last-added r m offset =
    let ts = map (shifted (length r.names) (length r.sources) offset) m.tokens in
    ap (option_map position_of) (last-after None r.tokens (without_repeat is_same_token (last r.tokens) ts))
    ∙ last-kept (last r.tokens) ts
    ∙ ap (last_or (option_map position_of (last r.tokens))) (moved (length r.names) (length r.sources) offset m.tokens)

last-joined : (r : MapRecord) (ms : List (MapRecord × Position)) → option_map position_of (last (added_all r ms).tokens) ≡ last_or (option_map position_of (last r.tokens)) (token_positions ms)
last-joined r [] = refl
last-joined r (m ∷ ms) =
    last-joined (added r m.0 m.1) ms
    ∙ ap (λ o. last_or o (token_positions ms)) (last-added r m.0 m.1)
    ∙ sym (last-after (option_map position_of (last r.tokens)) (map (moved_position m.1) m.0.tokens) (token_positions ms))

-- the last token of a join
pub last_position : (maps : List (MapRecord × Position)) → option_map position_of (last (joined maps).tokens) ≡ last (token_positions maps)
last_position maps = last-joined nothing_joined maps
