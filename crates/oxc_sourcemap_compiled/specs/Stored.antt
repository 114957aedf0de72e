-- Texts as they are stored.
use Rattle.std.specs.Prelude.{List, ℕ, ◌∷◌, if◌then◌else◌}
use Rattle.oxc_sourcemap_compiled.specs.declared.writing.texts.Stored.{Stored}

-- the bytes of a text, with one in front of it where it has a mark
abbrev pub stored_bytes : Stored → List ℕ
stored_bytes s = if s.is_marked then 1 ∷ s.text.now else s.text.now
