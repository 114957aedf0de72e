use Rattle.std.proofs.Common.{take}
use Rattle.std.specs.List.{sum_by}
use Rattle.oxc_sourcemap_json.specs.Room.{string_room, IsRoomFor}
use Rattle.oxc_sourcemap_json.proofs.write.room.texts_room.Given as goal

abbrev pub invariant-loop-text : goal.invariant-loop-text
invariant-loop-text l = IsRoomFor (sum_by string_room (take l.text-index l.texts)) l.room
