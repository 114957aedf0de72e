-- Two names that are added one after the other.
use Rattle.std.proofs.Common.{◌≡◌, ◌↔◌, ℕ, [], sym, ap}
use Rattle.oxc_sourcemap.specs.Record.{Text}
use Rattle.oxc_sourcemap.specs.Built.{Built}
use Rattle.oxc_sourcemap.specs.Building.{with_name}
use Rattle.oxc_sourcemap.specs.NameLaws.{EqualIdsForEqualNames}

pub two-ids : EqualIdsForEqualNames → (b b' b'' : Built) (name other : Text) (id id' : ℕ) → (b', id) ≡ with_name b name → (b'', id') ≡ with_name b' other → (id ≡ id') ↔ (name ≡ other)
two-ids law b b' b'' name other id id' p q =
    let first : (with_name b name).1 ≡ id = sym (ap (λ (t : Built × ℕ). t.1) p) in
    let front : (with_name b name).0 ≡ b' = sym (ap (λ (t : Built × ℕ). t.0) p) in
    let second : (with_name b' other).1 ≡ id' = sym (ap (λ (t : Built × ℕ). t.1) q) in
    rw (first, front, second) at (law b name other [])
