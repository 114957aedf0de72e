-- What is lent says the same to every thread, since a `Held` may be read by several.
use base.Fml.{Lft}
use base.Shift.{Keyless}
use denote.Builtin.{RawPtr}
use denote.Param.Send.{IsSend, owning_send, sendable}
use denote.RawPtr.{Ptr, block_ptr, null_ptr}
use Rattle.std.specs.Prelude.{Option, None, Some}
use Rattle.oxc_sourcemap_c.specs.contracts.holding.held.Held as held
use Rattle.oxc_sourcemap_c.specs.contracts.holding.lent.Lent.{the_row, the_type}
use Rattle.oxc_sourcemap_c.specs.Lent.{shared_at}
use Rattle.oxc_sourcemap_c.proofs.holding.held.Held.TheSendSync.{the_sync}

shared_keyless : (life : Lft) (p : Ptr) (x : Option held.the_row.Denot) → Keyless (shared_at life p x)
shared_keyless life null_ptr None = tt
shared_keyless life null_ptr (Some x) = tt
shared_keyless life (block_ptr b o) None = tt
shared_keyless life (block_ptr b o) (Some x) = ((λ _. tt), (tt, the_sync.shared x b o life))

pointer : IsSend RawPtr
pointer = search sendable

pub send : IsSend the_row
send = owning_send the_type (pointer, tt) (λ d. ((λ _. tt), shared_keyless d.life d.at d.held)) (λ k d w. tt)
