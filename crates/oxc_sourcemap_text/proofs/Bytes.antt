-- Whether a text has a byte, by where it has it first.
use Rattle.std.proofs.Common.{◌≡◌, ℕ, ◌<◌, true, false, List, ◌==◌, length}
use Rattle.std.specs.List.{position_or_len}
use Rattle.std.proofs.lemmas.List.Folds.{list_any_at, list_any_none}
use Rattle.std.proofs.lemmas.List.Sums.{passes_at_first, fails_before_first}
use Rattle.std.proofs.lemmas.List.Elements.{All-from_get_or}
use Rattle.oxc_sourcemap_text.specs.DataUrls.{has_byte}

pub has_byte-none : (byte : ℕ) (text : List ℕ) → position_or_len (λ b. b == byte) text ≡ length text → has_byte byte text ≡ false
has_byte-none byte text e =
    list_any_none (λ b. b == byte) text
    (All-from_get_or (λ b. (b == byte) ≡ false) text 0 (λ i within. fails_before_first (λ b. b == byte) text i 0 (rw e within)))

pub has_byte-some : (byte : ℕ) (text : List ℕ) → position_or_len (λ b. b == byte) text < length text → has_byte byte text ≡ true
has_byte-some byte text within =
    list_any_at (λ b. b == byte) text _ 0 within (passes_at_first (λ b. b == byte) text 0 within)

pub ruleset byte_facts = (has_byte-none, has_byte-some)
