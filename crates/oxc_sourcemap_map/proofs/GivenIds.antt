-- The ids given to paths, and those of names, as hash maps have them.
use Rattle.std.proofs.Common.{◌≡◌, ◌∙◌, ap, sym, ℕ, cond, List, [], ◌∷◌, ◌++◌, map, length, Some}
use Rattle.std.proofs.Common.{None, refl, arith}
use Rattle.std.proofs.lemmas.List.{map-append, length-map}
use Rattle.std.specs.Option.{option_or}
use Rattle.std.specs.Cow.{cow_str_bytes}
use Rattle.std.specs.declared.alloc.Global.{Global}
use Rattle.std.specs.declared.borrow.CowStr.{CowStr}
use Rattle.std.proofs.lemmas.Map.Text.{is_eq-slice_cmp, text_keys}
use Rattle.std.proofs.lemmas.Slice.Eq.{bytes_eq-Decides}
use Rattle.std.specs.Ordering.{nat_cmp}
use Rattle.std.specs.Cmp.Lexicographic.{slice_cmp, nat_list_cmp_total}
use Rattle.std.specs.Str.{bytes_eq}
use Rattle.std.specs.Map.{lookup, update}
use Rattle.std.specs.FinMap as fin
use Rattle.oxc_sourcemap_parts.specs.Record.{Text}
use Rattle.oxc_sourcemap_parts.specs.Texts.{index_of}
use Rattle.oxc_sourcemap_parts.proofs.Places.{index-push}

-- the ids that entries give
abbrev ids_of : List (CowStr Global × ℕ) → fin.FinMap (slice_cmp nat_cmp) ℕ
ids_of es = fin.from_entries {R = slice_cmp nat_cmp} (map (λ e. (cow_str_bytes e.0, e.1)) es)

find_given : (path : Text) (es : List (CowStr Global × ℕ)) → fin.find (slice_cmp nat_cmp) path (map (λ e. (cow_str_bytes e.0, e.1)) es) ≡ lookup (λ k. bytes_eq path (cow_str_bytes k)) es
find_given path [] = refl
find_given path (e ∷ es) = grind (arith, is_eq-slice_cmp, find_given path es)

-- the id given to a path
pub get_given : (es : List (CowStr Global × ℕ)) (path : Text) → fin.get (ids_of es) path ≡ lookup (λ k. bytes_eq path (cow_str_bytes k)) es
get_given es path = fin.get-from_entries nat_list_cmp_total (map (λ e. (cow_str_bytes e.0, e.1)) es) path ∙ find_given path es

-- the ids given to paths after one more is given
pub given_more : (es fs : List (CowStr Global × ℕ)) (path : Text) (id : ℕ)
    → ((q : Text) → lookup (λ k. bytes_eq q (cow_str_bytes k)) fs ≡ update bytes_eq (λ ds. lookup (λ k. bytes_eq ds (cow_str_bytes k)) es) path (Some id) q) → ids_of fs ≡ fin.insert (ids_of es) path id
given_more es fs path id h =
    fin.same_map nat_list_cmp_total (fin.slice_cmp-IsAntisymmetric fin.nat_cmp-IsAntisymmetric) _ _
    (λ q.
    get_given fs q ∙ h q
    ∙ grind (arith, is_eq-slice_cmp, text_keys, bytes_eq-Decides path q, bytes_eq-Decides q path, get_given es q, fin.get-insert nat_list_cmp_total (ids_of es) path id q))

-- entries in another order give the same ids
pub given_same : (es fs : List (CowStr Global × ℕ)) → ((q : Text) → lookup (λ k. bytes_eq q (cow_str_bytes k)) fs ≡ lookup (λ k. bytes_eq q (cow_str_bytes k)) es) → ids_of fs ≡ ids_of es
given_same es fs h =
    fin.same_map nat_list_cmp_total (fin.slice_cmp-IsAntisymmetric fin.nat_cmp-IsAntisymmetric) _ _ (λ q. get_given fs q ∙ h q ∙ sym (get_given es q))

-- the index of a text among one name more
pub place_more : (text : Text) (names : List (CowStr Global)) (name : CowStr Global)
    → index_of text (map cow_str_bytes (names ++ name ∷ [])) ≡ option_or (index_of text (map cow_str_bytes names)) (cond (bytes_eq text (cow_str_bytes name)) (Some (length names)) None)
place_more text names name =
    ap (index_of text) (map-append cow_str_bytes names (name ∷ [])) ∙ index-push text (map cow_str_bytes names) (cow_str_bytes name)
    ∙ ap (λ n. option_or (index_of text (map cow_str_bytes names)) (cond (bytes_eq text (cow_str_bytes name)) (Some n) None)) (length-map names cow_str_bytes)
