use Rattle.std.proofs.Common.{◌<◌, ℕ, arith, bit_or, slice_index_or, ap, ◌∙◌}
use Rattle.std.proofs.lemmas.Nat.{le_or_l, le_or_r}
use Rattle.oxc_sourcemap_join.specs.Joining.{id_limit}
use Rattle.oxc_sourcemap_join.proofs.reach.Reach.with.Goals as goal

pub returns-clause-token : goal.returns-clause-token
returns-clause-token c =
    let places = c.args.self.positions in
    let ids = c.args.self.ids in
    let place = λ (j : ℕ) (h : j < 4). c.bits_of_both.ensures j h ∙ ap (λ l. bit_or (slice_index_or places j 0) (slice_index_or l j 0)) c.position_lanes.ensures.lanes in
    let id = λ (j : ℕ) (h : j < 4). c.bits_of_both-2.ensures j h ∙ ap (λ l. bit_or (slice_index_or ids j 0) (slice_index_or l j 0)) c.limit_lanes.ensures in
    record {
      in_bounds = c.position_lanes.ensures.in_bounds;
      line = omega (arith, le_or_r (slice_index_or places 0 0) c.args.token.now.dst_line, place 0 (omega arith));
      column = omega (arith, le_or_r (slice_index_or places 1 0) c.args.token.now.dst_col, place 1 (omega arith));
      source = omega (arith, le_or_r (slice_index_or ids 0 0) (id_limit c.args.token.now.source_id), id 0 (omega arith));
      name = omega (arith, le_or_r (slice_index_or ids 1 0) (id_limit c.args.token.now.name_id), id 1 (omega arith));
    }

pub returns-clause-others : goal.returns-clause-others
returns-clause-others c = λ t h.
    let places = c.args.self.positions in
    let ids = c.args.self.ids in
    record {
      in_bounds = h.in_bounds;
      line = omega (arith, le_or_l (slice_index_or places 0 0) (slice_index_or c.position_lanes.result 0 0), c.bits_of_both.ensures 0 (omega arith), h.line);
      column = omega (arith, le_or_l (slice_index_or places 1 0) (slice_index_or c.position_lanes.result 1 0), c.bits_of_both.ensures 1 (omega arith), h.column);
      source = omega (arith, le_or_l (slice_index_or ids 0 0) (slice_index_or c.limit_lanes.result 0 0), c.bits_of_both-2.ensures 0 (omega arith), h.source);
      name = omega (arith, le_or_l (slice_index_or ids 1 0) (slice_index_or c.limit_lanes.result 1 0), c.bits_of_both-2.ensures 1 (omega arith), h.name);
    }
