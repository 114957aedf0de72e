-- The steps of the reader of lines. Only private clauses cite this module.
use Rattle.std.specs.Prelude.{◌≡◌, ◌⊎◌, ◌++◌, ℕ, Bool, true, false, ◌&&◌, List, ◌∷◌, Option, Some}
use Rattle.std.specs.Prelude.{None, ◌==◌, if◌then◌else◌, flat_map, length}
use Rattle.std.specs.Borrow.{Bor}
use Rattle.std.specs.Str.{chars, IsUtf8}
use Rattle.std.specs.Option.{option_map}
use Rattle.oxc_sourcemap_text.specs.declared.url.comment.Place.{Place}
use Rattle.oxc_sourcemap_text.specs.declared.url.comment.Naming.{Naming}
use Rattle.oxc_sourcemap_text.specs.MappingUrls.{begins_with, IsNamingText, IsComment}
use Rattle.oxc_sourcemap_text.specs.MappingUrls.{Piece, pieces, all_pieces, AreQuiet, named_url}
use Rattle.oxc_sourcemap_text.specs.MappingUrls.{may_end_another, IsOutside}
use Rattle.oxc_sourcemap_text.specs.TextLines.{lines_of}

-- the second character of a comment that ends with its line, or does not
abbrev pub second_of : Bool → ℕ
second_of ends_with_line = if ends_with_line then 47 else 42

-- Whether a comment begins at this character, where these follow, and what is behind its first two. With `slashes` there are
-- comments that end with their line.
abbrev pub IsCommentAt : Bool → ℕ → List ℕ → Option (Bool × Bor (List ℕ)) → Type 0
IsCommentAt slashes c after None =
    ((c == 47 && (slashes && begins_with 47 after)) ≡ false) × ((c == 47 && begins_with 42 after) ≡ false)
IsCommentAt slashes c after (Some found) =
    (c ≡ 47) × (after ≡ second_of found.0 ∷ chars found.1.now) × (found.0 ≡ true → slashes ≡ true)

-- ---- a comment that names a URL, and its place

abbrev pub url_of : Option Naming → Option (List ℕ)
url_of known = option_map (λ found. chars found.url.now) known

-- The text of a comment names no URL, and may not end another one.
abbrev pub IsQuietText : List ℕ → Type 0
IsQuietText text = (may_end_another text ≡ false) × (named_url text ≡ None)

-- What is known after a comment with this text at this place: what was known, if the comment is quiet, or that it names the URL.
abbrev pub IsKnownAfter : Option Naming → List ℕ → Place → Naming → Type 0
IsKnownAfter known text place new =
    ((known ≡ Some new) × IsQuietText text) ⊎ ((new.place ≡ place) × IsNamingText text (chars new.url.now))

-- What begins here is a comment that names this URL, and then what is behind that.
abbrev pub BeginsNaming : Bool → List ℕ → List ℕ → List ℕ → Type 0
BeginsNaming slashes from back url = (text : List ℕ) × IsNamingText text url × (all_pieces slashes from ≡ Some text ∷ all_pieces slashes back)

-- What is put before this text adds no line to it.
abbrev pub IsOnOneLine : List ℕ → List ℕ → Type 0
IsOnOneLine front back = length (lines_of (front ++ back)) ≡ length (lines_of back)

-- The comment stands in this code.
pub record IsPlaced (slashes : Bool) (code : List ℕ) (known : Naming) : Type 0 where
  pub front : List ℕ
  pub second : ℕ
  pub is_second : (second ≡ 47) ⊎ (second ≡ 42)
  pub comment : List ℕ
  pub split : code ≡ front ++ 47 ∷ second ∷ known.place.text.now ++ known.place.after.now
  pub cut : known.place.text.now ≡ comment ++ known.place.rest.now
  pub comment_utf8 : IsUtf8 comment
  pub back_utf8 : IsUtf8 (known.place.rest.now ++ known.place.after.now)
  pub outside : IsOutside slashes (chars front) (chars (47 ∷ second ∷ known.place.text.now ++ known.place.after.now))
  pub names : IsComment slashes (47 ∷ second ∷ chars comment) (chars known.url.now)
  pub alone : BeginsNaming slashes (chars (47 ∷ second ∷ known.place.text.now ++ known.place.after.now))
      (chars (known.place.rest.now ++ known.place.after.now)) (chars known.url.now)
  pub on_one_line : IsOnOneLine (47 ∷ second ∷ chars comment) (chars (known.place.rest.now ++ known.place.after.now))

-- However much is read of what follows a front, it begins outside of the comments of the front.
abbrev pub AreReadApart : Bool → List ℕ → List ℕ → Type 0
AreReadApart slashes front rest = (read left : List ℕ) → rest ≡ read ++ left → IsOutside slashes front read

-- A line of a code, and what is behind it.
pub record IsLineOf (slashes : Bool) (line after : List ℕ) : Type 0 where
  pub others : List (List ℕ)
  pub cut : lines_of (line ++ after) ≡ line ∷ others
  pub pieces_are : flat_map (pieces slashes None) others ≡ all_pieces slashes after

-- The pieces behind the comment are quiet, up to those that are left.
pub record IsLastUpTo (slashes : Bool) (left : List Piece) (known : Naming) : Type 0 where
  pub read : List Piece
  pub quiet : AreQuiet read
  pub behind : all_pieces slashes (chars (known.place.rest.now ++ known.place.after.now)) ≡ read ++ left

-- the pieces of what is left of a line, and of what is behind it
abbrev pub pieces_left : Bool → List ℕ → List ℕ → List Piece
pieces_left slashes line after = pieces slashes None line ++ all_pieces slashes after
