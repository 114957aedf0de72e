use Rattle.std.proofs.Common.{◌≡◌, ap, ℕ, ◌+◌, ◌-◌, ◌/◌, ◌^◌, ◌<◌, ◌≤◌, List, length, get_or, arith}
use Rattle.std.proofs.Common.{rules}
use Rattle.std.proofs.lemmas.Bool.Decides.{nat_tests}
use Rattle.std.proofs.lemmas.List.{get_or-map, length-map}
use Rattle.oxc_sourcemap_tokens.specs.Token.{TokenRecord}
use Rattle.oxc_sourcemap_lookup.proofs.Halving.{digits-half, digits-below}
use Rattle.oxc_sourcemap_map.specs.Places.{token_original, no_token, listed}
use Rattle.oxc_sourcemap_map.proofs.reverse.order.count_before.Goals as goal

pub loop-size-init : goal.loop-size-init
loop-size-init c =
    let fits : length c.args.order.now < 2 ^ 64 = search rules in record {
      within = omega arith;
      counted = omega arith;
      small = digits-below 64 (length c.args.order.now) fits;
      before = λ k t h. absurd (omega (arith, h));
      others = λ k t h w. absurd (omega (arith, h, w));
    }

-- the place of the token that was compared
compared : (tokens : List TokenRecord) (order : List ℕ) (m : ℕ) (d : TokenRecord) → m < length order → token_original (get_or (listed tokens order) m d) ≡ token_original (get_or tokens (get_or order m 0) no_token)
compared tokens order m d h = ap token_original (get_or-map (λ i. get_or tokens i no_token) order m 0 d h)

pub loop-size-preserved-then-compare_original : goal.loop-size-preserved-then-compare_original
loop-size-preserved-then-compare_original c =
    let h = c.loop-size.invariant in
    let tokens = c.args.tokens.now in
    let order = c.args.order.now in
    let m = c.loop-size.start + (c.loop-size.size - c.loop-size.size / 2) - 1 in
    let half = digits-half c.loop-size.size (omega (arith, c.loop-size-test.true)) in
    let lt : m < length order = omega (arith, h.within, c.loop-size-test.true) in
    let i = get_or order m 0 in
    let less : token_original (get_or tokens i no_token) < c.args.place = grind (arith, nat_tests, c.compare_original.ensures.value no_token, c.if-compare_original.true) in
    let long : length (listed tokens order) ≡ length order = length-map order (λ i. get_or tokens i no_token) in record {
      within = omega (arith, h.within);
      counted = omega (arith, h.counted, half, c.compare_original.ensures.counted);
      small = h.small;
      before = λ k t w.
          let le : k ≤ m = omega (arith, w) in
          let up = c.requires.rises k m t le (omega (arith, lt, long)) in
          omega (arith, up, compared tokens order m t lt, less);
      others = λ k t w l. h.others k t (omega (arith, w, c.loop-size-test.true)) l;
    }

pub loop-size-preserved : goal.loop-size-preserved
loop-size-preserved c =
    let h = c.loop-size.invariant in
    let tokens = c.args.tokens.now in
    let order = c.args.order.now in
    let m = c.loop-size.start + (c.loop-size.size - c.loop-size.size / 2) - 1 in
    let half = digits-half c.loop-size.size (omega (arith, c.loop-size-test.true)) in
    let lt : m < length order = omega (arith, h.within, c.loop-size-test.true) in
    let i = get_or order m 0 in
    let more : c.args.place ≤ token_original (get_or tokens i no_token) = grind (arith, nat_tests, c.compare_original.ensures.value no_token, c.if-compare_original.false) in
    let long : length (listed tokens order) ≡ length order = length-map order (λ i. get_or tokens i no_token) in record {
      within = omega (arith, h.within);
      counted = omega (arith, h.counted, half, c.compare_original.ensures.counted);
      small = h.small;
      before = h.before;
      others = λ k t w l.
          let le : m ≤ k = omega (arith, w) in
          let up = c.requires.rises m k t le (omega (arith, l, long)) in
          omega (arith, up, compared tokens order m t lt, more);
    }
