use Rattle.std.proofs.Common.{arith, ◌≡◌, ℕ, ◌<◌, true, get_or, refl, length, ◌∙◌}
use Rattle.oxc_sourcemap_mappings.specs.declared.near.TheConstants.{NEAR}
use Rattle.oxc_sourcemap_mappings.specs.Canonical.{digits, letter, vlq_text}
use Rattle.oxc_sourcemap_mappings.proofs.Entries.{is_right, are_right, right-at, entry-short}
use Rattle.oxc_sourcemap_mappings.proofs.Entries.{entry-placed}
use Rattle.oxc_sourcemap_mappings.proofs.near.write_near.Goals as goal

all-right : are_right 0 NEAR ≡ true
unfolding are_right digits letter vlq_text
all-right = refl

entry-right : (rank : ℕ) → rank < 1024 → is_right rank (get_or NEAR rank 0) ≡ true
entry-right rank l = let n : length NEAR ≡ 1024 = refl in right-at NEAR all-right rank (omega (arith, n))

pub returns-clause-bytes : goal.returns-clause-bytes
returns-clause-bytes c =
    let right = entry-right c.args.rank c.requires.near in
    entry-placed c.args.rank (get_or NEAR c.args.rank 0) right c.args.buf.now c.copy_from_slice.new.self c.args.at _ _ (omega (arith, c.requires.room)) (c.copy_from_slice.ensures.after ∙ c.to_le_bytes.ensures) refl

pub returns-clause-within : goal.returns-clause-within
returns-clause-within c =
    let right = entry-right c.args.rank c.requires.near in
    omega (arith, entry-short c.args.rank (get_or NEAR c.args.rank 0) right)
