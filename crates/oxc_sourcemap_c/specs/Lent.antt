-- What C lends to a call.
use Rattle.std.specs.Prelude.{Option, None, Some, [], ◌∷◌}
use base.Fml.{Lft, Share, Fml, ftrue, ffalse, fsep, fex, flft}
use denote.RawPtr.{Ptr, block_ptr, null_ptr, Testable}
use denote.Ref.{ShrRef}
use mir.Syntax.{named}
use mir.Val.{vptr}
use Rattle.oxc_sourcemap_c.specs.contracts.holding.held.Held.{the_row}

-- nothing at null, and else what a `&Held` of this lifetime owns, and that its pointer may be compared with null
abbrev pub shared_at : Lft → Ptr → Option the_row.Denot → Fml
shared_at life null_ptr None = ftrue
shared_at life null_ptr (Some held) = ffalse
shared_at life (block_ptr b o) None = ffalse
shared_at life (block_ptr b o) (Some held) = fsep (fex (Testable (block_ptr b o)) (λ _. ftrue)) ((ShrRef (named 0) life the_row).own_val (record { ref_ptr = (b, o); now = held }) (vptr b o ∷ []))

-- that, with some share of the token of the lifetime, so that nobody ends it while this is lent
abbrev pub lent_owns : Lft → Ptr → Option the_row.Denot → Fml
lent_owns life at held = fsep (fex Share (λ q. flft life q)) (shared_at life at held)
