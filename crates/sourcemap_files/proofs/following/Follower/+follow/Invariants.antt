-- Each map that is followed takes one off the depth; of one depth, the sources of a map are looked at before their maps.
use Rattle.std.proofs.Common.{ℕ, ◌+◌, ◌*◌}
use Rattle.sourcemap_files.proofs.following.Follower.+follow.Given as goal

abbrev pub decreases-follow : goal.decreases-follow
decreases-follow l = 2 * l.depth + 1

abbrev pub decreases-followed_source : goal.decreases-followed_source
decreases-followed_source l = 2 * l.depth
