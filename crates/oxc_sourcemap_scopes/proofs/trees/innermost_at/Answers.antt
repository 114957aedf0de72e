use Rattle.std.proofs.Common.{◌≡◌, ◌+◌, ◌<◌, ◌≤◌, length, nat_le, true, false, None, arith, rules}
use Rattle.std.proofs.Common.{ap, leb}
use Rattle.std.proofs.lemmas.Bool.Decides.{nat_tests}
use Rattle.std.proofs.lemmas.List.Sorted.{IsPartitionPoint-from_clause, IsPartitionedBy-leb}
use Rattle.std.proofs.lemmas.List.Sorted.{IsNonDecreasingBy-from_default}
use Rattle.oxc_sourcemap_scopes.specs.Trees.{rank, parent_rank, span_at, no_span, contains}
use Rattle.oxc_sourcemap_scopes.specs.Trees.{start_key, key, place_of}
use Rattle.oxc_sourcemap_scopes.proofs.Innermost.{after-start, rises, previous-rank, outward}
use Rattle.oxc_sourcemap_scopes.proofs.Innermost.{found-innermost}
use Rattle.oxc_sourcemap_scopes.proofs.Innermost.{none-innermost, does-contain, not-source}
use Rattle.oxc_sourcemap_scopes.proofs.Innermost.{not-before-end}
use Rattle.oxc_sourcemap_scopes.proofs.trees.innermost_at.Goals as goal
use Rattle.oxc_sourcemap_scopes.proofs.trees.innermost_at.Goals.{else-span-source-via-then-span-source+else-place-place_of}
use Rattle.oxc_sourcemap_scopes.proofs.trees.innermost_at.Goals.{else-span-source-via-else-span-source}

pub loop-next-init : goal.loop-next-init
loop-next-init c =
    let spans = c.args.spans.now in
    let k = key c.args.source c.args.place in
    let parted = IsPartitionedBy-leb start_key spans k (IsNonDecreasingBy-from_default start_key spans no_span (rises spans c.requires)) in
    let point = IsPartitionPoint-from_clause (λ s. leb (start_key s) k) spans _ c.partition_point-started.ensures.partitioned parted (λ a r q k. search rules) in
    let m = c.partition_point-started.result in
    let within : m ≤ length spans = search rules in
    let r : rank c.checked_sub-next.result ≡ m = previous-rank c.checked_sub-next.result m c.checked_sub-next.ensures in
    record {
      within = omega (arith, r, within);
      past = λ j l p. after-start c.args.source c.args.place (span_at spans j) (let is : nat_le (start_key (span_at spans j)) k ≡ false = point.1 j no_span (omega (arith, r, p)) l in grind (arith, nat_tests, is));
      by = λ j l. (let is : nat_le (start_key (span_at spans j)) k ≡ true = point.0 j no_span (omega (arith, within, r)) (omega (arith, r)) in grind (arith, nat_tests, is));
    }

pub returns-then-place-place_of-clause-index : goal.returns-then-place-place_of-clause-index
returns-then-place-place_of-clause-index c =
    let spans = c.args.spans.now in
    let i = c.in-Some.index in
    let inv = c.loop-next.invariant in
    let r : rank c.loop-next.next ≡ i + 1 = ap rank c.in-Some.is in
    let l : i < length spans = omega (arith, inv.within, r) in
    let by : start_key (span_at spans i) ≤ key c.args.source c.args.place = inv.by i (omega (arith, r)) in
    let same : (span_at spans i).source ≡ c.args.source = search rules in
    let ends : c.args.place < place_of (span_at spans i).end = rw c.place_of.ensures at c.if-place-place_of.true in
    found-innermost spans c.args.source c.args.place i l (does-contain c.args.source c.args.place (span_at spans i) by same ends) (λ j a b. inv.past j a (omega (arith, r)))

pub loop-next-preserved : goal.loop-next-preserved
loop-next-preserved c =
    let spans = c.args.spans.now in
    let i = c.in-Some.index in
    let inv = c.loop-next.invariant in
    let r : rank c.loop-next.next ≡ i + 1 = ap rank c.in-Some.is in
    let l : i < length spans = omega (arith, inv.within, r) in
    let by : start_key (span_at spans i) ≤ key c.args.source c.args.place = inv.by i (omega (arith, r)) in
    let up : parent_rank spans i ≤ i = c.requires.parents i l in
    let not : contains c.args.source c.args.place (span_at spans i) ≡ false =
    elim c.else-span-source.branch [
      | else-span-source-via-then-span-source+else-place-place_of w ↦ not-before-end c.args.source c.args.place (span_at spans i) (rw w.place_of.ensures at w.if-place-place_of.false)
      | else-span-source-via-else-span-source w ↦ not-source c.args.source c.args.place (span_at spans i) (λ e. w.if-span-source.false e)
    ] in
    record {
      within = omega (arith, up);
      past = outward spans c.args.source c.args.place i c.requires l by not (λ j a b. inv.past j a (omega (arith, r)));
      by = λ j b. inv.by j (omega (arith, up, r));
    }

pub returns-clause-index : goal.returns-clause-index
returns-clause-index c =
    let e : c.loop-next.next ≡ None = search rules in
    let r : rank c.loop-next.next ≡ 0 = ap rank e in
    none-innermost c.args.spans.now c.args.source c.args.place (λ j a. c.loop-next.invariant.past j a (omega (arith, r)))
