use Rattle.std.proofs.Common.{ℕ, ◌+◌, map, Some, None, sym, ap, ◌∙◌, if◌then◌else◌}
use Rattle.std.proofs.lemmas.List.{map_push}
use Rattle.std.specs.List.{range_with_len}
use Rattle.oxc_sourcemap_parts.specs.Views.{text_of}
use Rattle.oxc_sourcemap_compiled.specs.Decompiled.{is_optional_utf8}
use Rattle.oxc_sourcemap_compiled.specs.Words.{optional_in}
use Rattle.oxc_sourcemap_compiled.proofs.Taken.{checked-some, checked-none, all-more, not-all}
use Rattle.oxc_sourcemap_compiled.proofs.Taken.{made-more}
use Rattle.oxc_sourcemap_compiled.proofs.opened.Opened.lent_contents.Goals as goal

pub returns-in-None : goal.returns-in-None
returns-in-None c =
    let o = c.args.self.now in
    let f = λ (i : ℕ). optional_in o.bytes.now o.header (c.args.first + i) in
    let i = c.loop-i.i in
    let bad = checked-none (is_optional_utf8 (f i)) (f i) c.in-None.ensures in
    sym (ap (λ b. if b then Some (map f (range_with_len 0 c.args.count)) else None) (not-all is_optional_utf8 f c.args.count i c.loop-i-test.true bad))

pub loop-i-preserved : goal.loop-i-preserved
loop-i-preserved c =
    let o = c.args.self.now in
    let f = λ (i : ℕ). optional_in o.bytes.now o.header (c.args.first + i) in
    let i = c.loop-i.i in
    let text = c.in-Some.text in
    let items = c.loop-i.texts.items in
    let found = checked-some (is_optional_utf8 (f i)) (f i) (text_of text) c.in-Some.ensures in
    let pushed = ap (map text_of) c.in_ok-push-in-Some.ensures.items ∙ map_push text_of items text in
    record {
      texts = made-more f (map text_of items) (map text_of c.push.new.self.items) (text_of text) i pushed c.loop-i.invariant.texts found.1;
      utf8 = all-more is_optional_utf8 f i c.loop-i.invariant.utf8 found.0;
    }
