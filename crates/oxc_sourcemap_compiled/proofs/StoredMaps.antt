-- What a map means is kept in the map that is stored of it.
use Rattle.std.proofs.Common.{Bool, true, false, ◌&&◌, sym, true≢false, ◌≡◌, ℕ, zero, suc, ◌+◌}
use Rattle.std.proofs.Common.{List, [], ◌∷◌, map, length, Option, None, refl, ap, ◌∙◌, arith}
use Rattle.std.specs.List.{range_with_len, list_all}
use Rattle.std.specs.Str.{is_utf8}
use Rattle.oxc_sourcemap_parts.specs.Record.{MapRecord, Text}
use Rattle.oxc_sourcemap_parts.specs.DecodedMap.{sources_of, mapping_of, decoded_map_of}
use Rattle.oxc_sourcemap_compiled.specs.Compiled.{content_at}
use Rattle.oxc_sourcemap_compiled.specs.Decompiled.{is_optional_utf8, has_utf8_texts}
use Rattle.oxc_sourcemap_compiled.specs.Means.{stored_map}

-- the contents from one on are those of a list without its first
shifted : (c : Option Text) (contents : List (Option Text)) (a n : ℕ) → map (content_at (c ∷ contents)) (range_with_len (a + 1) n) ≡ map (content_at contents) (range_with_len a n)
shifted c contents a zero = refl
shifted c contents a (suc n) =
    let next : a + 1 ≡ suc a = omega arith in
    ap (λ k. content_at (c ∷ contents) k ∷ map (content_at (c ∷ contents)) (range_with_len (a + 1 + 1) n)) next
    ∙ ap (λ xs. content_at contents a ∷ xs) (shifted c contents (a + 1) n)

none-listed : (a n : ℕ) → map (content_at []) (range_with_len (a + 1) n) ≡ map (content_at []) (range_with_len a n)
none-listed a zero = refl
none-listed a (suc n) = ap (λ xs. None ∷ xs) (none-listed (a + 1) n)

sources-kept : (paths : List Text) (contents : List (Option Text)) → sources_of paths (map (content_at contents) (range_with_len 0 (length paths))) ≡ sources_of paths contents
sources-kept [] contents = refl
sources-kept (path ∷ paths) [] =
    ap (λ cs. record { path = path; content = None } ∷ sources_of paths cs) (none-listed 0 (length paths)) ∙ ap (λ ss. record { path = path; content = None } ∷ ss) (sources-kept paths [])
sources-kept (path ∷ paths) (c ∷ contents) =
    ap (λ cs. record { path = path; content = c } ∷ sources_of paths cs) (shifted c contents 0 (length paths)) ∙ ap (λ ss. record { path = path; content = c } ∷ ss) (sources-kept paths contents)

pub stored-means : (r : MapRecord) → decoded_map_of (stored_map r) ≡ decoded_map_of r
stored-means r =
    ap (λ ss. record { file = r.file; source_root = r.source_root; debug_id = r.debug_id; ignore_list = r.ignore_list; sources = ss; mappings = map (mapping_of ss r.names) r.tokens })
    (sources-kept r.sources r.source_contents)

-- ---- texts that are UTF-8
and-first : (a b : Bool) → (a && b) ≡ true → a ≡ true
and-first true b e = refl
and-first false b e = absurd (true≢false (sym e))

and-second : (a b : Bool) → (a && b) ≡ true → b ≡ true
and-second true b e = e
and-second false b e = absurd (true≢false (sym e))

content-passes : (contents : List (Option Text)) (i : ℕ) → list_all is_optional_utf8 contents ≡ true → is_optional_utf8 (content_at contents i) ≡ true
content-passes [] i e = refl
content-passes (c ∷ contents) zero e = and-first (is_optional_utf8 c) (list_all is_optional_utf8 contents) e
content-passes (c ∷ contents) (suc i) e = content-passes contents i (and-second (is_optional_utf8 c) (list_all is_optional_utf8 contents) e)

contents-pass : (contents : List (Option Text)) (a n : ℕ) → list_all is_optional_utf8 contents ≡ true → list_all is_optional_utf8 (map (content_at contents) (range_with_len a n)) ≡ true
contents-pass contents a zero e = refl
contents-pass contents a (suc n) e = rw (content-passes contents a e, contents-pass contents (a + 1) n e) refl

pub stored-utf8 : (r : MapRecord) → has_utf8_texts r ≡ true → has_utf8_texts (stored_map r) ≡ true
stored-utf8 r e =
    let all = map (content_at r.source_contents) (range_with_len 0 (length r.sources)) in
    let rest = is_optional_utf8 r.file && (is_optional_utf8 r.source_root && is_optional_utf8 r.debug_id) in
    let names = list_all is_utf8 r.names in
    let sources = list_all is_utf8 r.sources in
    let old = list_all is_optional_utf8 r.source_contents in
    let behind = and-second sources (names && (old && rest)) e in
    let last = and-second names (old && rest) behind in
    let contents = contents-pass r.source_contents 0 (length r.sources) (and-first old rest last) in
    rw (and-first sources (names && (old && rest)) e, and-first names (old && rest) behind, contents) (and-second old rest last)
