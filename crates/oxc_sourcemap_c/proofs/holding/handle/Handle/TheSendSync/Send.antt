-- What a handle owns says the same to every thread, since a `Held` may pass to another.
use base.Fraction.{full_share}
use base.Shift.{Keyless}
use mir.Raw.{raw}
use denote.Builtin.{RawPtr}
use denote.Memory.{lone}
use denote.Param.Send.{IsSend, owning_send, part_keyless, sendable}
use denote.RawPtr.{Ptr, block_ptr, null_ptr}
use Rattle.std.specs.Global.{Global}
use Rattle.std.specs.Prelude.{Option, None, Some}
use Rattle.std_heap.proofs.Global.TheSendSync as heap
use Rattle.std_heap.proofs.GlobalAllocator.TheSendSync.{the_frees}
use Rattle.oxc_sourcemap_c.specs.contracts.holding.held.Held as held
use Rattle.oxc_sourcemap_c.specs.contracts.holding.handle.Handle.{the_row, the_type}
use Rattle.oxc_sourcemap_c.specs.Handles.{handle_owns}
use Rattle.oxc_sourcemap_c.proofs.holding.held.Held.TheSendSync.{the_send}

handle_keyless : (a : Global) (p : Ptr) (x : Option held.the_row.Denot) → Keyless (handle_owns a p x)
handle_keyless a null_ptr None = tt
handle_keyless a null_ptr (Some x) = λ _. tt
handle_keyless a (block_ptr b o) None = λ _. tt
handle_keyless a (block_ptr b o) (Some x) = (part_keyless held.the_row the_send full_share x b o, the_frees.frees a (raw (lone held.the_row.mir)) (block_ptr b o))

pointer : IsSend RawPtr
pointer = search sendable

pub send : IsSend the_row
send = owning_send the_type (pointer, (heap.the_field_send, tt)) (λ d. handle_keyless d.alloc d.at d.held) (λ k d w. tt)
