-- The tests for equality of what decoded maps consist of decide it.
use Rattle.std.proofs.Common.{◌≡◌, ℕ, List, ap, Option}
use Rattle.std.specs.Bool.{Decides}
use Rattle.std.specs.Cmp.Lexicographic.{bytes_decides}
use Rattle.std.specs.Str.{bytes_eq}
use Rattle.std.proofs.lemmas.Bool.Decides.{Decides-eqb}
use Rattle.oxc_sourcemap_parts.specs.DecodedMap.{DecodedSource, OriginalPosition, DecodedMapping}
use Rattle.oxc_sourcemap_join.proofs.SameToken.{decides_and, decides_as, decides_option}
use Rattle.oxc_sourcemap_steps.specs.Same.{is_same_source, is_same_original, point_alike}

pub source_by : (a : DecodedSource) (x0 : List ℕ) (x1 : Option (List ℕ)) → a.path ≡ x0 → a.content ≡ x1 → a ≡ record { path = x0; content = x1 }
source_by a x0 x1 e0 e1 = rw (← e0, ← e1)

pub decides_source : (a b : DecodedSource) → Decides (is_same_source a b) (a ≡ b)
decides_source a b =
    decides_as (is_same_source a b) ((a.path ≡ b.path) × (a.content ≡ b.content)) (a ≡ b)
    (λ h. source_by a b.path b.content h.0 h.1)
    (λ e. (ap (λ (m : DecodedSource). m.path) e, ap (λ (m : DecodedSource). m.content) e))
    (decides_and _ _ _ _ (bytes_decides a.path b.path) (decides_option bytes_eq bytes_decides a.content b.content))

pub origin_by : (a : OriginalPosition) (x0 : DecodedSource) (x1 : ℕ) (x2 : ℕ) (x3 : Option (List ℕ)) → a.source ≡ x0 → a.src_line ≡ x1 → a.src_col ≡ x2 → a.name ≡ x3 → a ≡ record { source = x0; src_line = x1; src_col = x2; name = x3 }
origin_by a x0 x1 x2 x3 e0 e1 e2 e3 = rw (← e0, ← e1, ← e2, ← e3)

pub decides_origin : (a b : OriginalPosition) → Decides (is_same_original a b) (a ≡ b)
decides_origin a b =
    decides_as (is_same_original a b) ((a.source ≡ b.source) × ((a.src_line ≡ b.src_line) × ((a.src_col ≡ b.src_col) × (a.name ≡ b.name)))) (a ≡ b)
    (λ h. origin_by a b.source b.src_line b.src_col b.name h.0 h.1.0 h.1.1.0 h.1.1.1)
    (λ e. (ap (λ (m : OriginalPosition). m.source) e, (ap (λ (m : OriginalPosition). m.src_line) e, (ap (λ (m : OriginalPosition). m.src_col) e, ap (λ (m : OriginalPosition). m.name) e))))
    (decides_and _ _ _ _ (decides_source a.source b.source) (decides_and _ _ _ _ (Decides-eqb a.src_line b.src_line) (decides_and _ _ _ _ (Decides-eqb a.src_col b.src_col) (decides_option bytes_eq bytes_decides a.name b.name))))

pub entry_by : (a : DecodedMapping) (x0 : ℕ) (x1 : ℕ) (x2 : Option OriginalPosition) → a.dst_line ≡ x0 → a.dst_col ≡ x1 → a.original ≡ x2 → a ≡ record { dst_line = x0; dst_col = x1; original = x2 }
entry_by a x0 x1 x2 e0 e1 e2 = rw (← e0, ← e1, ← e2)

pub decides_originals : (a b : DecodedMapping) → Decides (point_alike a b) (a.original ≡ b.original)
decides_originals a b = decides_option is_same_original decides_origin a.original b.original
