use Rattle.std.proofs.Common.{◌≡◌, ◌+◌, ◌-◌, ◌++◌, ◌&&◌, ◌∙◌, ap, not, ◌==◌, length, nat_lt, arith}
use Rattle.std.proofs.lemmas.Grind.{common_steps}
use Rattle.std.specs.Char.Escape.{encode_utf16}
use Rattle.oxc_sourcemap_text.specs.Scans.{ends_line_alone}
use Rattle.oxc_sourcemap_text.proofs.Steps.{scan-step, put_if, utf16-length, char-not_low}
use Rattle.oxc_sourcemap_text.proofs.positions.scan.Scan.read.Goals as goal
use Rattle.oxc_sourcemap_text.proofs.positions.scan.Scan.read.Goals.{then-self, else-self}

pub returns-clause-read : goal.returns-clause-read
returns-clause-read c = λ front is.
    let s = c.args.self.now in
    let ch = c.args.ch in
    let len = c.in-Some.len in
    let begins : c.if-self.push_if ≡ (s.is_after_return && not (ch == 10)) = elim c.if-self.branch as (λ _. c.if-self.push_if ≡ (s.is_after_return && not (ch == 10))) [ then-self w ↦ grind (arith, common_steps) | else-self w ↦ grind (arith, common_steps) ] in
    let sum : len ≡ s.len + c.len_utf16.result = grind (arith, common_steps) in
    let size : len ≡ s.len + length (encode_utf16 ch) = sum ∙ ap (λ n. s.len + n) (utf16-length ch c.len_utf16.result c.len_utf16.ensures.bmp c.len_utf16.ensures.surrogate_pair) in
    let first : c.push_if.new.offsets.items ≡ s.starts.items ++ put_if c.if-self.push_if s.len = c.in_ok-push_if.ensures in
    let second : c.push_if-3.new.offsets.items ≡ c.push_if.new.offsets.items ++ put_if c.ends_line_alone.result len = c.in_ok-push_if-3.ensures in
    let starts : c.push_if-3.new.offsets.items ≡ (s.starts.items ++ put_if (s.is_after_return && not (ch == 10)) s.len) ++ put_if (ends_line_alone ch) len =
    second ∙ ap (λ b. c.push_if.new.offsets.items ++ put_if b len) c.ends_line_alone.ensures ∙ ap (λ xs. xs ++ put_if (ends_line_alone ch) len) (first ∙ ap (λ b. s.starts.items ++ put_if b s.len) begins) in
    let halves : c.push_if-2.new.offsets.items ≡ s.second_halves.items ++ put_if (nat_lt 0xffff ch) (len - 1) = c.in_ok-push_if-2.ensures in
    let low = char-not_low ch c.ranges.ch.0 in
    scan-step front s ch len c.push_if-3.new.offsets c.push_if-2.new.offsets is low.0 low.1 size starts halves
