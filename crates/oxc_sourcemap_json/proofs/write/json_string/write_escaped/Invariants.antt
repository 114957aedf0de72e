use Rattle.std.proofs.Common.{◌≡◌, ◌+◌, ◌*◌, ◌-◌, ◌≤◌, ◌++◌, length, take, flat_map}
use Rattle.oxc_sourcemap_json.specs.JsonString.{escaped}
use Rattle.oxc_sourcemap_json.proofs.write.json_string.write_escaped.Given as goal

abbrev pub invariant-loop-done : goal.invariant-loop-done
invariant-loop-done l = record {
  bytes : take l.end l.buf ≡ take l.at l.initial.buf ++ flat_map escaped (take l.done l.text);
  within : l.end ≤ l.at + 6 * l.done;
  reached : l.done ≤ length l.text;
}

abbrev pub decreases-loop-done : goal.decreases-loop-done
decreases-loop-done l = length l.text - l.done
