use Rattle.std.proofs.Common.{Some, None, inl, inr}
use Rattle.oxc_sourcemap_compiled.specs.Words.{compiled_in}
use Rattle.oxc_sourcemap_c.specs.Structs.{IsSeen, IsShown}
use Rattle.oxc_sourcemap_c.proofs.Shown.{seen}
use Rattle.oxc_sourcemap_c.proofs.Traced.{is_trace}
use Rattle.oxc_sourcemap_c.proofs.holding.compiled.trace_compiled.Goals as goal

pub returns-in-Some : goal.returns-in-Some
returns-in-Some c =
    let m = (compiled_in c.args.map.now).content in
    let p = c.write_compiled.new.self in
    let i = c.in-Some.found.0 in
    let t = c.in-Some.found.1 in
    let shown : IsShown m i t p = c.write_compiled.ensures in
    record {
      traced = λ order. is_trace c.args.bias m c.args.at p (Some i) (seen m i t p (c.in-Some.ensures.token order) shown) (λ sorted. c.in-Some.ensures.found order);
      among = inr (record { index = i; token = t; on_line = c.in-Some.ensures.among.0; is = c.in-Some.ensures.among.1; shown = shown });
    }

pub returns-in-None : goal.returns-in-None
returns-in-None c =
    let m = (compiled_in c.args.map.now).content in
    let is = c.nothing.ensures in
    let nothing_seen : IsSeen m None c.nothing.result = record { index = is.index; token = is.token; name = is.kind.2; original = is.kind } in
    record {
      traced = λ order. is_trace c.args.bias m c.args.at c.nothing.result None nothing_seen (λ sorted. c.in-None.ensures.found order);
      among = inl (record { index = is.index; token = is.token; original = is.kind });
    }
