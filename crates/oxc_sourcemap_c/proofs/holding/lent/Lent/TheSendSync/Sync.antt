-- Several threads may read what is lent, since it says the same to each.
use denote.Param.Send.{IsSync, part_keyless}
use Rattle.oxc_sourcemap_c.specs.contracts.holding.lent.Lent.{the_row}
use Rattle.oxc_sourcemap_c.proofs.holding.lent.Lent.TheSendSync.Send.{send}

pub sync : IsSync the_row
sync = record { shared = λ d b o ν q. part_keyless the_row send q d b o }
