-- Worked examples of builders, computed by the definitions themselves.
use Rattle.std.specs.Prelude.{◌≡◌, refl, [], ◌∷◌, codes}
use Rattle.oxc_sourcemap_map.specs.Built.{Built, nothing_built}
use Rattle.oxc_sourcemap_map.specs.Building.{with_name, with_another_source}

-- a builder with the names foo and bar
abbrev foo_bar : Built
foo_bar = (with_name (with_name nothing_built (codes "foo")).0 (codes "bar")).0

names-first : (with_name nothing_built (codes "foo")).1 ≡ 0
names-first = refl

names-second : (with_name (with_name nothing_built (codes "foo")).0 (codes "bar")).1 ≡ 1
names-second = refl

names-again : with_name foo_bar (codes "foo") ≡ (foo_bar, 0)
names-again = refl

names-listed : foo_bar.map.names ≡ codes "foo" ∷ codes "bar" ∷ []
names-listed = refl

sets-a_source : (with_another_source (with_another_source nothing_built (codes "b.js") (codes "B")).0 (codes "b.js") (codes "C")).0.map.sources ≡ codes "b.js" ∷ codes "b.js" ∷ []
sets-a_source = refl
