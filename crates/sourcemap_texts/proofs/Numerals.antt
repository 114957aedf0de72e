-- Words that are no positions.
use Rattle.std.proofs.Common.{◌≡◌, ℕ, List}
use Rattle.std.specs.List.{before_first, after_first}
use Rattle.oxc_sourcemap_tokens.specs.declared.position.Position.{Position}
use Rattle.sourcemap_texts.specs.Positions.{IsNumber, IsPosition, is_colon}

pub no_line : (base : ℕ) (word line : List ℕ) → line ≡ before_first is_colon word → ((n : ℕ) → ¬ (IsNumber base line n)) → (p : Position) → ¬ (IsPosition base word p)
no_line base word line e none p is = none p.line (rw e is.line)

pub no_column : (base : ℕ) (word column : List ℕ) → column ≡ after_first is_colon word → ((n : ℕ) → ¬ (IsNumber base column n)) → (p : Position) → ¬ (IsPosition base word p)
no_column base word column e none p is = none p.column (rw e is.column)
