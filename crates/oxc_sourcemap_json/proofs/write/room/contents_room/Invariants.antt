use Rattle.std.proofs.Common.{take}
use Rattle.std.specs.List.{sum_by}
use Rattle.oxc_sourcemap_json.specs.Room.{content_room, IsRoomFor}
use Rattle.oxc_sourcemap_json.proofs.write.room.contents_room.Given as goal

abbrev pub invariant-loop-content : goal.invariant-loop-content
invariant-loop-content l = IsRoomFor (sum_by content_room (take l.content-index l.contents)) l.room
