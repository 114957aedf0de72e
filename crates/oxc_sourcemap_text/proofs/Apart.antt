-- What begins outside of the comments of what is before it.
use Rattle.std.proofs.Common.{◌≡◌, ℕ, ◌<◌, Bool, true, false, List, [], ◌∷◌, ◌++◌, ◌==◌, ◌&&◌, ◌||◌}
use Rattle.std.proofs.Common.{refl, sym, ap, ◌∙◌, subst, arith, Option, Some, None}
use Rattle.std.proofs.Common.{flat_map, length}
use Rattle.std.specs.Prelude.{not}
use lib.Utf8.{encode, encodes, scalar, scalars}
use Rattle.std.specs.Char.{is_whitespace}
use Rattle.std.specs.Str.{chars, IsUtf8}
use Rattle.std.proofs.lemmas.Bool.{and_parts}
use Rattle.std.proofs.lemmas.List.{append-nil, append_assoc, append_cancel_right}
use Rattle.std.proofs.lemmas.Str.{chars-append, chars-encodes, encodes-append, encodes-chars}
use Rattle.std.proofs.lemmas.Str.{scalars-chars}
use Rattle.oxc_sourcemap_text.specs.TextLines.{ends_line, onto_first, lines_of}
use Rattle.oxc_sourcemap_text.specs.TextLines.{begins_with_line_feed}
use Rattle.oxc_sourcemap_text.specs.MappingUrls.{Piece, pieces, all_pieces, IsOutside, begins_with}
use Rattle.oxc_sourcemap_text.specs.MappingUrls.{around_block_end}
use Rattle.oxc_sourcemap_text.specs.Comments.{IsLineOf, AreReadApart, pieces_left}
use Rattle.oxc_sourcemap_text.proofs.Cuts.{lines-end, lines-no_end}
use Rattle.oxc_sourcemap_text.proofs.Pieces.{pieces-nil, pieces-space, pieces-code, pieces-block}
use Rattle.oxc_sourcemap_text.proofs.Blocks.{onto_front}
use Rattle.oxc_sourcemap_text.proofs.Placed.{spelt}
use Rattle.oxc_sourcemap_text.proofs.Last.{lines-some, onto-parts, shorter, end-pieces}
use Rattle.oxc_sourcemap_text.proofs.Last.{nothing-behind, begun}

-- ---- lines

lines-nothing : lines_of [] ≡ [] ∷ []
unfolding lines_of
lines-nothing = refl

longer : (ls : List (List ℕ)) (l : List ℕ) → ls ≡ l ∷ ls → ⊥
longer ls l e = absurd (omega (arith, ap length e))

slash-some : (front after : List ℕ) → front ++ 47 ∷ after ≡ [] → ⊥
slash-some [] after e = cc
slash-some (c ∷ front) after e = cc

ends-same : (c : ℕ) (front after : List ℕ) → ends_line c (front ++ 47 ∷ after) ≡ ends_line c front
ends-same c [] after = refl
ends-same c (d ∷ front) after = refl

-- what stands before a slash on a line has no line end
pub one-line : (front rest after : List ℕ) (others : List (List ℕ)) → lines_of ((front ++ 47 ∷ rest) ++ after) ≡ (front ++ 47 ∷ rest) ∷ others
    → lines_of front ≡ front ∷ []
one-line [] rest after others e = lines-nothing
one-line (c ∷ front) rest after others e =
    let same : ends_line c ((front ++ 47 ∷ rest) ++ after) ≡ ends_line c front =
    ap (ends_line c) (append_assoc front (47 ∷ rest) after) ∙ ends-same c front (rest ++ after) in
    elim (ends_line c front) as (λ v. ends_line c front ≡ v → lines_of (c ∷ front) ≡ (c ∷ front) ∷ []) [
      | true ↦ (λ h.
          let cut : (c ∷ []) ∷ lines_of ((front ++ 47 ∷ rest) ++ after) ≡ (c ∷ (front ++ 47 ∷ rest)) ∷ others =
          sym (lines-end c ((front ++ 47 ∷ rest) ++ after) (same ∙ h)) ∙ e in
          let none : front ++ 47 ∷ rest ≡ [] = cc in
          absurd (slash-some front rest none))
      | false ↦ (λ h.
          let less = shorter c (front ++ 47 ∷ rest) after others (slash-some front rest) e in
          lines-no_end c front h ∙ ap (onto_first c) (one-line front rest after others less))
    ] refl

ends-more : (a b c d e : Bool) → (a || b || c || (d && e)) ≡ true → (a || b || c || (d && true)) ≡ true
ends-more true b c d e h = refl
ends-more false true c d e h = refl
ends-more false false true d e h = refl
ends-more false false false true e h = refl
ends-more false false false false e h = cc

ends-front : (c : ℕ) (front after : List ℕ) → ends_line c (front ++ after) ≡ true → ends_line c front ≡ true
ends-front c [] after h = ends-more (c == 10) (c == 0x2028) (c == 0x2029) (c == 13) (not (begins_with_line_feed after)) h
ends-front c (d ∷ front) after h = h

-- a line is one, however much is read of what is behind it
line-before : (line read left : List ℕ) → lines_of (line ++ (read ++ left)) ≡ line ∷ lines_of (read ++ left) → lines_of (line ++ read) ≡ line ∷ lines_of read
line-before [] read left e = absurd (longer (lines_of (read ++ left)) [] e)
line-before (c ∷ []) read left e =
    let all = lines_of (read ++ left) in
    elim (ends_line c (read ++ left)) as (λ v. ends_line c (read ++ left) ≡ v → lines_of (c ∷ read) ≡ (c ∷ []) ∷ lines_of read) [
      | true ↦ (λ h. lines-end c read (ends-front c read left h))
      | false ↦ (λ h. absurd (longer all [] (onto-parts c all [] all (lines-some (read ++ left)) (sym (lines-no_end c (read ++ left) h) ∙ e))))
    ] refl
line-before (c ∷ d ∷ line) read left e =
    let some : d ∷ line ≡ [] → ⊥ = λ h. cc in
    let rest = line-before (d ∷ line) read left (shorter c (d ∷ line) (read ++ left) (lines_of (read ++ left)) some e) in
    elim (ends_line c (d ∷ line ++ read)) as (λ v. ends_line c (d ∷ line ++ read) ≡ v → lines_of (c ∷ d ∷ line ++ read) ≡ (c ∷ d ∷ line) ∷ lines_of read) [
      | true ↦ (λ h.
          let cut : (c ∷ []) ∷ lines_of (d ∷ line ++ (read ++ left)) ≡ (c ∷ d ∷ line) ∷ lines_of (read ++ left) =
          sym (lines-end c (d ∷ line ++ (read ++ left)) h) ∙ e in
          let none : d ∷ line ≡ [] = cc in
          absurd (some none))
      | false ↦ (λ h. lines-no_end c (d ∷ line ++ read) h ∙ ap (onto_first c) rest)
    ] refl

-- ---- where a line begins

pub apart-start : (s : Bool) (front rest : List ℕ) → front ≡ [] → AreReadApart s front rest
apart-start s front rest none = λ read left e.
    subst (λ f. IsOutside s f read) (sym none) (ap (λ ps. ps ++ all_pieces s read) (sym (nothing-behind s [] refl)))

own-pieces : (s : Bool) (line : List ℕ) → lines_of line ≡ line ∷ [] → all_pieces s line ≡ pieces s None line
own-pieces s line cut = ap (flat_map (pieces s None)) cut ∙ append-nil (pieces s None line)

line-pieces : (s : Bool) (line : List ℕ) → lines_of (line ++ []) ≡ line ∷ lines_of [] → all_pieces s line ≡ pieces s None line
line-pieces s line cut =
    ap (all_pieces s) (sym (append-nil line)) ∙ ap (flat_map (pieces s None)) cut ∙ ap (λ ps. pieces s None line ++ ps) (nothing-behind s [] refl)
    ∙ append-nil (pieces s None line)

pub apart-next : (s : Bool) (front line after : List ℕ) → AreReadApart s front (line ++ after) → lines_of (line ++ after) ≡ line ∷ lines_of after
    → AreReadApart s (front ++ line) after
apart-next s front line after apart cut = λ read left e.
    let here : lines_of (line ++ read) ≡ line ∷ lines_of read = line-before line read left (subst (λ l. lines_of (line ++ l) ≡ line ∷ lines_of l) e cut) in
    let own = line-pieces s line (line-before line [] after cut) in
    ap (all_pieces s) (append_assoc front line read) ∙ apart (line ++ read) left (ap (λ l. line ++ l) e ∙ sym (append_assoc line read left))
    ∙ ap (λ ls. all_pieces s front ++ flat_map (pieces s None) ls) here
    ∙ sym (append_assoc (all_pieces s front) (pieces s None line) (all_pieces s read))
    ∙ ap (λ ps. (all_pieces s front ++ ps) ++ all_pieces s read) (sym own)
    ∙ ap (λ ps. ps ++ all_pieces s read) (sym (apart line after refl))

-- ---- a place in a line

-- However much is read of what is left of a line, its pieces come behind those that are passed.
abbrev pub AreCutAt : Bool → List ℕ → List ℕ → Type 0
AreCutAt s passed rest = (read left : List ℕ) → rest ≡ read ++ left → pieces s None (passed ++ read) ≡ pieces s None passed ++ pieces s None read

pub cut-start : (s : Bool) (rest : List ℕ) → AreCutAt s [] rest
cut-start s rest = λ read left e. ap (λ ps. ps ++ pieces s None read) (sym (pieces-nil s))

-- a step with these pieces is passed
cut-past : (s : Bool) (passed rest step after : List ℕ) (out : List Piece) → AreCutAt s passed rest → rest ≡ step ++ after
    → ((read left : List ℕ) → after ≡ read ++ left → pieces s None (step ++ read) ≡ out ++ pieces s None read) → AreCutAt s (passed ++ step) after
cut-past s passed rest step after out cut is steps = λ read left e.
    let alone : pieces s None step ≡ out =
    ap (pieces s None) (sym (append-nil step)) ∙ steps [] after refl ∙ ap (λ ps. out ++ ps) (pieces-nil s) ∙ append-nil out in
    let own : pieces s None (passed ++ step) ≡ pieces s None passed ++ out = cut step after is ∙ ap (λ ps. pieces s None passed ++ ps) alone in
    ap (pieces s None) (append_assoc passed step read) ∙ cut (step ++ read) left (is ∙ ap (λ l. step ++ l) e ∙ sym (append_assoc step read left))
    ∙ ap (λ ps. pieces s None passed ++ ps) (steps read left e) ∙ sym (append_assoc (pieces s None passed) out (pieces s None read))
    ∙ ap (λ ps. ps ++ pieces s None read) (sym own)

pub cut-space : (s : Bool) (passed rest cs : List ℕ) (c : ℕ) → AreCutAt s passed rest → rest ≡ c ∷ cs → is_whitespace c ≡ true → AreCutAt s (passed ++ c ∷ []) cs
cut-space s passed rest cs c cut e white = cut-past s passed rest (c ∷ []) cs [] cut e (λ read left f. pieces-space s c read white)

and-false : (a : Bool) → (a && false) ≡ false
and-false false = refl
and-false true = refl

-- a test that fails with all that follows fails with less
less-line : (a s : Bool) (k : ℕ) (cs read left : List ℕ) → cs ≡ read ++ left → (a && (s && begins_with k cs)) ≡ false → (a && (s && begins_with k read)) ≡ false
less-line a s k cs [] left e h = ap (λ b. a && b) (and-false s) ∙ and-false a
less-line a s k cs (d ∷ read) left e h = ap (λ l. a && (s && begins_with k l)) (sym e) ∙ h

less-block : (a : Bool) (k : ℕ) (cs read left : List ℕ) → cs ≡ read ++ left → (a && begins_with k cs) ≡ false → (a && begins_with k read) ≡ false
less-block a k cs [] left e h = and-false a
less-block a k cs (d ∷ read) left e h = ap (λ l. a && begins_with k l) (sym e) ∙ h

pub cut-code : (s : Bool) (passed rest cs : List ℕ) (c : ℕ) → AreCutAt s passed rest → rest ≡ c ∷ cs → is_whitespace c ≡ false
    → (c == 47 && (s && begins_with 47 cs)) ≡ false → (c == 47 && begins_with 42 cs) ≡ false → AreCutAt s (passed ++ c ∷ []) cs
cut-code s passed rest cs c cut e white line block =
    cut-past s passed rest (c ∷ []) cs (None ∷ []) cut e
    (λ read left f. pieces-code s c read white (less-line (c == 47) s 47 cs read left f line) (less-block (c == 47) 42 cs read left f block))

same-begin : (inner xs ys : List ℕ) → begins_with 47 (inner ++ 42 ∷ xs) ≡ begins_with 47 (inner ++ 42 ∷ ys)
same-begin [] xs ys = refl
same-begin (c ∷ inner) xs ys = refl

-- the two parts, or nothing
abbrev first_part : Option (List ℕ × List ℕ) → List ℕ
first_part None = []
first_part (Some parts) = parts.0

abbrev second_part : Option (List ℕ × List ℕ) → List ℕ
second_part None = []
second_part (Some parts) = parts.1

onto-same : (c : ℕ) (inner code : List ℕ) (parts : Option (List ℕ × List ℕ)) → onto_front c parts ≡ Some (c ∷ inner, code) → parts ≡ Some (inner, code)
onto-same c inner code None e = cc
onto-same c inner code (Some p) e =
    let whole : c ∷ p.0 ≡ c ∷ inner = ap first_part e in
    let front : p.0 ≡ inner = cc in
    ap (λ f. Some (f, p.1)) front ∙ ap (λ b. Some (inner, b)) (ap second_part e)

-- where a comment ends does not depend on what is behind it
end-same : (inner code read : List ℕ) → around_block_end (inner ++ 42 ∷ 47 ∷ code) ≡ Some (inner, code) → around_block_end (inner ++ 42 ∷ 47 ∷ read) ≡ Some (inner, read)
end-same [] code read e = refl
end-same (c ∷ inner) code read e =
    let same = same-begin inner (47 ∷ read) (47 ∷ code) in
    elim (c == 42 && begins_with 47 (inner ++ 42 ∷ 47 ∷ code)) as (λ v. (c == 42 && begins_with 47 (inner ++ 42 ∷ 47 ∷ code)) ≡ v
    → around_block_end (c ∷ inner ++ 42 ∷ 47 ∷ read) ≡ Some (c ∷ inner, read)) [
      | true ↦ (λ h. let none : [] ≡ c ∷ inner = ap first_part (rw h at e) in cc)
      | false ↦ (λ h.
          let rest = onto-same c inner code (around_block_end (inner ++ 42 ∷ 47 ∷ code)) (rw h at e) in
          rw (same, h) (ap (onto_front c) (end-same inner code read rest)))
    ] refl

pub cut-block : (s : Bool) (passed rest cs text inner code : List ℕ) (c : ℕ) → AreCutAt s passed rest → rest ≡ c ∷ cs → c ≡ 47 → cs ≡ 42 ∷ text
    → text ≡ (inner ++ 42 ∷ 47 ∷ []) ++ code → around_block_end text ≡ Some (inner, code) → AreCutAt s (passed ++ 47 ∷ 42 ∷ (inner ++ 42 ∷ 47 ∷ [])) code
cut-block s passed rest cs text inner code c cut e is next split ends =
    let step : List ℕ = 47 ∷ 42 ∷ (inner ++ 42 ∷ 47 ∷ []) in
    let whole : rest ≡ step ++ code = begun rest cs text c 42 e is next ∙ ap (λ l. 47 ∷ 42 ∷ l) split in
    let ended : around_block_end (inner ++ 42 ∷ 47 ∷ code) ≡ Some (inner, code) =
    ap around_block_end (sym (append_assoc inner (42 ∷ 47 ∷ []) code) ∙ sym split) ∙ ends in
    cut-past s passed rest step code (Some inner ∷ []) cut whole
    (λ read left f. ap (λ l. pieces s None (47 ∷ 42 ∷ l)) (append_assoc inner (42 ∷ 47 ∷ []) read)
    ∙ pieces-block s (inner ++ 42 ∷ 47 ∷ read) inner read (end-same inner code read ended))

-- a comment begins here
pub begins-here : (s : Bool) (front line after passed rest inner : List ℕ) → AreReadApart s front (line ++ after) → IsLineOf s line after → line ≡ passed ++ rest
    → rest ≡ 47 ∷ inner → AreCutAt s passed rest → IsOutside s (front ++ passed) (rest ++ after)
begins-here s front line after passed rest inner apart is whole slash cut =
    let ends : lines_of ((passed ++ 47 ∷ inner) ++ after) ≡ (passed ++ 47 ∷ inner) ∷ is.others =
    subst (λ l. lines_of (l ++ after) ≡ l ∷ is.others) (whole ∙ ap (λ l. passed ++ l) slash) is.cut in
    let own = own-pieces s passed (one-line passed inner after is.others ends) in
    let parts : line ++ after ≡ passed ++ (rest ++ after) = ap (λ l. l ++ after) whole ∙ append_assoc passed rest after in
    let split : all_pieces s (line ++ after) ≡ all_pieces s passed ++ all_pieces s (rest ++ after) =
    end-pieces s line [] line after is refl
    ∙ ap (λ ps. ps ++ all_pieces s after) (ap (pieces s None) whole ∙ cut rest [] (sym (append-nil rest)))
    ∙ append_assoc (pieces s None passed) (pieces s None rest) (all_pieces s after)
    ∙ ap (λ ps. pieces s None passed ++ ps) (sym (end-pieces s line passed rest after is whole))
    ∙ ap (λ ps. ps ++ all_pieces s (rest ++ after)) (sym own) in
    ap (all_pieces s) (append_assoc front passed (rest ++ after)) ∙ ap (λ l. all_pieces s (front ++ l)) (sym parts)
    ∙ apart (line ++ after) [] (sym (append-nil (line ++ after))) ∙ ap (λ ps. all_pieces s front ++ ps) split
    ∙ sym (append_assoc (all_pieces s front) (all_pieces s passed) (all_pieces s (rest ++ after)))
    ∙ ap (λ ps. ps ++ all_pieces s (rest ++ after)) (sym (apart passed (rest ++ after) parts))

-- ---- by bytes

scalars-front : (xs ys : List ℕ) → scalars (xs ++ ys) ≡ true → scalars xs ≡ true
scalars-front [] ys h = refl
scalars-front (x ∷ xs) ys h =
    let parts = and_parts (scalar x) (scalars (xs ++ ys)) h in
    ap (λ b. b && scalars xs) parts.0 ∙ scalars-front xs ys parts.1

-- the characters of the front of a line
front-chars : (line passed rest front : List ℕ) → IsUtf8 line → IsUtf8 rest → line ≡ passed ++ rest → chars line ≡ front ++ chars rest → chars passed ≡ front
front-chars line passed rest front utf8 rest_utf8 split e =
    let spell : scalars front ≡ true = scalars-front front (chars rest) (ap scalars (sym e) ∙ scalars-chars line utf8) in
    let same : passed ++ rest ≡ encodes front ++ rest =
    sym split ∙ sym (encodes-chars line utf8) ∙ ap encodes e ∙ encodes-append front (chars rest) ∙ ap (λ l. encodes front ++ l) (encodes-chars rest rest_utf8) in
    ap chars (append_cancel_right passed (encodes front) rest same) ∙ chars-encodes front spell

-- what is left of a line that begins with a comment, and of what is behind the line
read-here : (rest inner text after : List ℕ) (c second : ℕ) → IsUtf8 rest → rest ≡ encode c ++ inner → c ≡ 47 → second < 128 → inner ≡ encode second ++ text
    → chars (47 ∷ second ∷ text ++ after) ≡ chars rest ++ chars after
read-here rest inner text after c second utf8 step slash low next =
    ap (λ l. chars (l ++ after)) (sym (spelt rest inner text c second step slash low next)) ∙ chars-append rest after utf8

-- a comment that is read on a line of a code
pub outside-here : (s : Bool) (front line after passed rest inner text own cs : List ℕ) (c second : ℕ) → IsUtf8 front → IsUtf8 line → IsUtf8 rest
    → AreReadApart s (chars front) (chars line ++ chars after) → IsLineOf s (chars line) (chars after) → line ≡ passed ++ rest
    → chars line ≡ own ++ chars rest → AreCutAt s own (chars rest) → chars rest ≡ c ∷ cs → rest ≡ encode c ++ inner → c ≡ 47 → second < 128
    → inner ≡ encode second ++ text → IsOutside s (chars (front ++ passed)) (chars (47 ∷ second ∷ text ++ after))
outside-here s front line after passed rest inner text own cs c second front_utf8 utf8 rest_utf8 apart is split whole cut e step slash low next =
    let before : chars (front ++ passed) ≡ chars front ++ own =
    chars-append front passed front_utf8 ∙ ap (λ l. chars front ++ l) (front-chars line passed rest own utf8 rest_utf8 split whole) in
    let behind = read-here rest inner text after c second rest_utf8 step slash low next in
    subst (λ f. IsOutside s f (chars (47 ∷ second ∷ text ++ after))) (sym before)
    (subst (λ l. IsOutside s (chars front ++ own) l) (sym behind)
    (begins-here s (chars front) (chars line) (chars after) own (chars rest) cs apart is whole (e ∙ ap (λ d. d ∷ cs) slash) cut))

-- its pieces are those that are left
pub pieces-here : (s : Bool) (line after rest inner text own : List ℕ) (c second : ℕ) → IsUtf8 rest → IsLineOf s (chars line) (chars after)
    → chars line ≡ own ++ chars rest → rest ≡ encode c ++ inner → c ≡ 47 → second < 128 → inner ≡ encode second ++ text
    → all_pieces s (chars (47 ∷ second ∷ text ++ after)) ≡ pieces_left s (chars rest) (chars after)
pieces-here s line after rest inner text own c second utf8 is whole step slash low next =
    ap (all_pieces s) (read-here rest inner text after c second utf8 step slash low next) ∙ end-pieces s (chars line) own (chars rest) (chars after) is whole

-- those of what is behind it
pub pieces-behind : (s : Bool) (line after own rest : List ℕ) → IsUtf8 rest → IsLineOf s line (chars after) → line ≡ own ++ chars rest
    → all_pieces s (chars (rest ++ after)) ≡ pieces_left s (chars rest) (chars after)
pieces-behind s line after own rest utf8 is whole = ap (all_pieces s) (chars-append rest after utf8) ∙ end-pieces s line own (chars rest) (chars after) is whole
