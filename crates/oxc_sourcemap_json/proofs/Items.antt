-- Strings of a list, gathered one after the other.
use Rattle.std.proofs.Common.{◌≡◌, ℕ, ◌+◌, ◌<◌, Bool, true, false, if◌then◌else◌, List, [], ◌∷◌}
use Rattle.std.proofs.Common.{◌++◌, length, take, set, flat_map, arith, lit<, refl, sym, ap, ◌∙◌}
use Rattle.std.proofs.Common.{append_assoc, append-nil}
use Rattle.std.proofs.lemmas.List.{take-set-le, take_more_set}
use Rattle.std.proofs.lemmas.Str.{IsUtf8-append, IsUtf8-nil}
use Rattle.std.specs.Str.{IsUtf8}
use Rattle.oxc_sourcemap_json.specs.JsonString.{escaped, json_string, comma_text, item_text}
use Rattle.oxc_sourcemap_json.proofs.EscapedText.{ascii-then, utf8-escaped}
use Rattle.oxc_sourcemap_json.proofs.JsonTexts.{four_added}
use Rattle.oxc_sourcemap_json.proofs.Separated.{separated}

-- a comma is stored, and counts unless the list begins here
pub comma_written : (buf : List ℕ) (at n : ℕ) (is_first : Bool) → at < length buf → n ≡ (if is_first then 0 else 1) → take (at + n) (set buf at 44) ≡ take at buf ++ comma_text is_first
comma_written buf at n true l e =
    let same : at + n ≡ at = omega (arith, e) in
    ap (λ k. take k (set buf at 44)) same ∙ take-set-le at buf at 44 (omega arith) ∙ sym (append-nil (take at buf))
comma_written buf at n false l e = ap (λ k. take (at + k) (set buf at 44)) e ∙ take_more_set buf at 44 l

pub item_written : (kept : List ℕ) (is_first : Bool) (text t1 t2 t3 t4 : List ℕ) → t1 ≡ kept ++ comma_text is_first → t2 ≡ t1 ++ 34 ∷ [] → t3 ≡ t2 ++ flat_map escaped text → t4 ≡ t3 ++ 34 ∷ []
    → t4 ≡ kept ++ item_text is_first text
unfolding json_string
item_written kept is_first text t1 t2 t3 t4 p1 p2 p3 p4 =
    four_added kept (comma_text is_first) (34 ∷ []) (flat_map escaped text) (34 ∷ []) t1 t2 t3 t4 p1 p2 p3 p4

utf8-comma : (is_first : Bool) → IsUtf8 (comma_text is_first)
utf8-comma true = IsUtf8-nil
utf8-comma false = ascii-then 44 [] (lit< tt) IsUtf8-nil

pub utf8-item : (is_first : Bool) (text : List ℕ) → IsUtf8 text → IsUtf8 (item_text is_first text)
unfolding json_string
utf8-item is_first text u =
    IsUtf8-append (comma_text is_first) _ (utf8-comma is_first)
    (ascii-then 34 _ (lit< tt) (IsUtf8-append (flat_map escaped text) (34 ∷ []) (utf8-escaped text u) (ascii-then 34 [] (lit< tt) IsUtf8-nil)))

item_separated : (is_first : Bool) (text : List ℕ) (rest : List (List ℕ)) → item_text is_first text ++ separated json_string false rest ≡ separated json_string is_first (text ∷ rest)
item_separated true text rest = refl
item_separated false text rest = refl

-- one text further, where some bytes are in the text and the others in the buffer
pub item_more : (old kept old2 kept2 all : List ℕ) (is_first : Bool) (text : List ℕ) (rest : List (List ℕ)) → old2 ++ kept2 ≡ (old ++ kept) ++ item_text is_first text
    → (old ++ kept) ++ separated json_string is_first (text ∷ rest) ≡ all → (old2 ++ kept2) ++ separated json_string false rest ≡ all
item_more old kept old2 kept2 all is_first text rest e before =
    ap (λ x. x ++ separated json_string false rest) e
    ∙ append_assoc (old ++ kept) (item_text is_first text) (separated json_string false rest)
    ∙ ap (λ x. (old ++ kept) ++ x) (item_separated is_first text rest) ∙ before
