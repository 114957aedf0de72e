use Rattle.std.proofs.Common.{◌≡◌, ◌++◌, ap, ◌∙◌}
use Rattle.oxc_sourcemap_compiled.proofs.Slices.{appended}
use Rattle.oxc_sourcemap_compiled.specs.Compiled.{bytes_of, flag_of}
use Rattle.oxc_sourcemap_compiled.proofs.writing.push_header.Goals as goal

pub returns : goal.returns
returns c =
    let length = c.in_ok-push_number.ensures in
    let text = c.in_ok-push_number-2.ensures in
    let ignored = c.in_ok-push_u32-8.ensures ∙ ap (λ n. c.push_u32-7.new.out.items ++ bytes_of 4 n) c.flag.ensures in
    let listed = c.in_ok-push_u32-9.ensures ∙ ap (λ n. c.push_u32-8.new.out.items ++ bytes_of 4 n) c.flag-2.ensures in
    let x11 : c.push_u32-10.new.out.items ≡ c.push_u32-8.new.out.items ++ ((bytes_of 4 (flag_of c.args.header.now.has_line_numbers)) ++ (bytes_of 4 c.args.header.now.group_bytes)) = appended c.push_u32-8.new.out.items c.push_u32-9.new.out.items c.push_u32-10.new.out.items (bytes_of 4 (flag_of c.args.header.now.has_line_numbers)) ((bytes_of 4 c.args.header.now.group_bytes)) (listed) (c.in_ok-push_u32-10.ensures) in
    let x10 : c.push_u32-10.new.out.items ≡ c.push_u32-7.new.out.items ++ ((bytes_of 4 (flag_of c.args.header.now.has_ignore_list)) ++ ((bytes_of 4 (flag_of c.args.header.now.has_line_numbers)) ++ (bytes_of 4 c.args.header.now.group_bytes))) = appended c.push_u32-7.new.out.items c.push_u32-8.new.out.items c.push_u32-10.new.out.items (bytes_of 4 (flag_of c.args.header.now.has_ignore_list)) (((bytes_of 4 (flag_of c.args.header.now.has_line_numbers)) ++ (bytes_of 4 c.args.header.now.group_bytes))) (ignored) (x11) in
    let x9 : c.push_u32-10.new.out.items ≡ c.push_u32-6.new.out.items ++ ((bytes_of 4 c.args.header.now.ignored) ++ ((bytes_of 4 (flag_of c.args.header.now.has_ignore_list)) ++ ((bytes_of 4 (flag_of c.args.header.now.has_line_numbers)) ++ (bytes_of 4 c.args.header.now.group_bytes)))) = appended c.push_u32-6.new.out.items c.push_u32-7.new.out.items c.push_u32-10.new.out.items (bytes_of 4 c.args.header.now.ignored) (((bytes_of 4 (flag_of c.args.header.now.has_ignore_list)) ++ ((bytes_of 4 (flag_of c.args.header.now.has_line_numbers)) ++ (bytes_of 4 c.args.header.now.group_bytes)))) (c.in_ok-push_u32-7.ensures) (x10) in
    let x8 : c.push_u32-10.new.out.items ≡ c.push_u32-5.new.out.items ++ ((bytes_of 4 c.args.header.now.names) ++ ((bytes_of 4 c.args.header.now.ignored) ++ ((bytes_of 4 (flag_of c.args.header.now.has_ignore_list)) ++ ((bytes_of 4 (flag_of c.args.header.now.has_line_numbers)) ++ (bytes_of 4 c.args.header.now.group_bytes))))) = appended c.push_u32-5.new.out.items c.push_u32-6.new.out.items c.push_u32-10.new.out.items (bytes_of 4 c.args.header.now.names) (((bytes_of 4 c.args.header.now.ignored) ++ ((bytes_of 4 (flag_of c.args.header.now.has_ignore_list)) ++ ((bytes_of 4 (flag_of c.args.header.now.has_line_numbers)) ++ (bytes_of 4 c.args.header.now.group_bytes))))) (c.in_ok-push_u32-6.ensures) (x9) in
    let x7 : c.push_u32-10.new.out.items ≡ c.push_u32-4.new.out.items ++ ((bytes_of 4 c.args.header.now.sources) ++ ((bytes_of 4 c.args.header.now.names) ++ ((bytes_of 4 c.args.header.now.ignored) ++ ((bytes_of 4 (flag_of c.args.header.now.has_ignore_list)) ++ ((bytes_of 4 (flag_of c.args.header.now.has_line_numbers)) ++ (bytes_of 4 c.args.header.now.group_bytes)))))) = appended c.push_u32-4.new.out.items c.push_u32-5.new.out.items c.push_u32-10.new.out.items (bytes_of 4 c.args.header.now.sources) (((bytes_of 4 c.args.header.now.names) ++ ((bytes_of 4 c.args.header.now.ignored) ++ ((bytes_of 4 (flag_of c.args.header.now.has_ignore_list)) ++ ((bytes_of 4 (flag_of c.args.header.now.has_line_numbers)) ++ (bytes_of 4 c.args.header.now.group_bytes)))))) (c.in_ok-push_u32-5.ensures) (x8) in
    let x6 : c.push_u32-10.new.out.items ≡ c.push_u32-3.new.out.items ++ ((bytes_of 4 c.args.header.now.lines) ++ ((bytes_of 4 c.args.header.now.sources) ++ ((bytes_of 4 c.args.header.now.names) ++ ((bytes_of 4 c.args.header.now.ignored) ++ ((bytes_of 4 (flag_of c.args.header.now.has_ignore_list)) ++ ((bytes_of 4 (flag_of c.args.header.now.has_line_numbers)) ++ (bytes_of 4 c.args.header.now.group_bytes))))))) = appended c.push_u32-3.new.out.items c.push_u32-4.new.out.items c.push_u32-10.new.out.items (bytes_of 4 c.args.header.now.lines) (((bytes_of 4 c.args.header.now.sources) ++ ((bytes_of 4 c.args.header.now.names) ++ ((bytes_of 4 c.args.header.now.ignored) ++ ((bytes_of 4 (flag_of c.args.header.now.has_ignore_list)) ++ ((bytes_of 4 (flag_of c.args.header.now.has_line_numbers)) ++ (bytes_of 4 c.args.header.now.group_bytes))))))) (c.in_ok-push_u32-4.ensures) (x7) in
    let x5 : c.push_u32-10.new.out.items ≡ c.extend_from_slice.new.self.items ++ ((bytes_of 4 c.args.header.now.tokens) ++ ((bytes_of 4 c.args.header.now.lines) ++ ((bytes_of 4 c.args.header.now.sources) ++ ((bytes_of 4 c.args.header.now.names) ++ ((bytes_of 4 c.args.header.now.ignored) ++ ((bytes_of 4 (flag_of c.args.header.now.has_ignore_list)) ++ ((bytes_of 4 (flag_of c.args.header.now.has_line_numbers)) ++ (bytes_of 4 c.args.header.now.group_bytes)))))))) = appended c.extend_from_slice.new.self.items c.push_u32-3.new.out.items c.push_u32-10.new.out.items (bytes_of 4 c.args.header.now.tokens) (((bytes_of 4 c.args.header.now.lines) ++ ((bytes_of 4 c.args.header.now.sources) ++ ((bytes_of 4 c.args.header.now.names) ++ ((bytes_of 4 c.args.header.now.ignored) ++ ((bytes_of 4 (flag_of c.args.header.now.has_ignore_list)) ++ ((bytes_of 4 (flag_of c.args.header.now.has_line_numbers)) ++ (bytes_of 4 c.args.header.now.group_bytes)))))))) (c.in_ok-push_u32-3.ensures) (x6) in
    let x4 : c.push_u32-10.new.out.items ≡ c.push_number-2.new.out.items ++ ((c.args.stamp.now) ++ ((bytes_of 4 c.args.header.now.tokens) ++ ((bytes_of 4 c.args.header.now.lines) ++ ((bytes_of 4 c.args.header.now.sources) ++ ((bytes_of 4 c.args.header.now.names) ++ ((bytes_of 4 c.args.header.now.ignored) ++ ((bytes_of 4 (flag_of c.args.header.now.has_ignore_list)) ++ ((bytes_of 4 (flag_of c.args.header.now.has_line_numbers)) ++ (bytes_of 4 c.args.header.now.group_bytes))))))))) = appended c.push_number-2.new.out.items c.extend_from_slice.new.self.items c.push_u32-10.new.out.items (c.args.stamp.now) (((bytes_of 4 c.args.header.now.tokens) ++ ((bytes_of 4 c.args.header.now.lines) ++ ((bytes_of 4 c.args.header.now.sources) ++ ((bytes_of 4 c.args.header.now.names) ++ ((bytes_of 4 c.args.header.now.ignored) ++ ((bytes_of 4 (flag_of c.args.header.now.has_ignore_list)) ++ ((bytes_of 4 (flag_of c.args.header.now.has_line_numbers)) ++ (bytes_of 4 c.args.header.now.group_bytes))))))))) (c.in_ok-extend_from_slice.ensures.items) (x5) in
    let x3 : c.push_u32-10.new.out.items ≡ c.push_number.new.out.items ++ ((bytes_of 8 c.args.text_length) ++ ((c.args.stamp.now) ++ ((bytes_of 4 c.args.header.now.tokens) ++ ((bytes_of 4 c.args.header.now.lines) ++ ((bytes_of 4 c.args.header.now.sources) ++ ((bytes_of 4 c.args.header.now.names) ++ ((bytes_of 4 c.args.header.now.ignored) ++ ((bytes_of 4 (flag_of c.args.header.now.has_ignore_list)) ++ ((bytes_of 4 (flag_of c.args.header.now.has_line_numbers)) ++ (bytes_of 4 c.args.header.now.group_bytes)))))))))) = appended c.push_number.new.out.items c.push_number-2.new.out.items c.push_u32-10.new.out.items (bytes_of 8 c.args.text_length) (((c.args.stamp.now) ++ ((bytes_of 4 c.args.header.now.tokens) ++ ((bytes_of 4 c.args.header.now.lines) ++ ((bytes_of 4 c.args.header.now.sources) ++ ((bytes_of 4 c.args.header.now.names) ++ ((bytes_of 4 c.args.header.now.ignored) ++ ((bytes_of 4 (flag_of c.args.header.now.has_ignore_list)) ++ ((bytes_of 4 (flag_of c.args.header.now.has_line_numbers)) ++ (bytes_of 4 c.args.header.now.group_bytes)))))))))) (text) (x4) in
    let x2 : c.push_u32-10.new.out.items ≡ c.push_u32-2.new.out.items ++ ((bytes_of 8 c.args.length) ++ ((bytes_of 8 c.args.text_length) ++ ((c.args.stamp.now) ++ ((bytes_of 4 c.args.header.now.tokens) ++ ((bytes_of 4 c.args.header.now.lines) ++ ((bytes_of 4 c.args.header.now.sources) ++ ((bytes_of 4 c.args.header.now.names) ++ ((bytes_of 4 c.args.header.now.ignored) ++ ((bytes_of 4 (flag_of c.args.header.now.has_ignore_list)) ++ ((bytes_of 4 (flag_of c.args.header.now.has_line_numbers)) ++ (bytes_of 4 c.args.header.now.group_bytes))))))))))) = appended c.push_u32-2.new.out.items c.push_number.new.out.items c.push_u32-10.new.out.items (bytes_of 8 c.args.length) (((bytes_of 8 c.args.text_length) ++ ((c.args.stamp.now) ++ ((bytes_of 4 c.args.header.now.tokens) ++ ((bytes_of 4 c.args.header.now.lines) ++ ((bytes_of 4 c.args.header.now.sources) ++ ((bytes_of 4 c.args.header.now.names) ++ ((bytes_of 4 c.args.header.now.ignored) ++ ((bytes_of 4 (flag_of c.args.header.now.has_ignore_list)) ++ ((bytes_of 4 (flag_of c.args.header.now.has_line_numbers)) ++ (bytes_of 4 c.args.header.now.group_bytes))))))))))) (length) (x3) in
    let x1 : c.push_u32-10.new.out.items ≡ c.push_u32.new.out.items ++ ((bytes_of 4 1) ++ ((bytes_of 8 c.args.length) ++ ((bytes_of 8 c.args.text_length) ++ ((c.args.stamp.now) ++ ((bytes_of 4 c.args.header.now.tokens) ++ ((bytes_of 4 c.args.header.now.lines) ++ ((bytes_of 4 c.args.header.now.sources) ++ ((bytes_of 4 c.args.header.now.names) ++ ((bytes_of 4 c.args.header.now.ignored) ++ ((bytes_of 4 (flag_of c.args.header.now.has_ignore_list)) ++ ((bytes_of 4 (flag_of c.args.header.now.has_line_numbers)) ++ (bytes_of 4 c.args.header.now.group_bytes)))))))))))) = appended c.push_u32.new.out.items c.push_u32-2.new.out.items c.push_u32-10.new.out.items (bytes_of 4 1) (((bytes_of 8 c.args.length) ++ ((bytes_of 8 c.args.text_length) ++ ((c.args.stamp.now) ++ ((bytes_of 4 c.args.header.now.tokens) ++ ((bytes_of 4 c.args.header.now.lines) ++ ((bytes_of 4 c.args.header.now.sources) ++ ((bytes_of 4 c.args.header.now.names) ++ ((bytes_of 4 c.args.header.now.ignored) ++ ((bytes_of 4 (flag_of c.args.header.now.has_ignore_list)) ++ ((bytes_of 4 (flag_of c.args.header.now.has_line_numbers)) ++ (bytes_of 4 c.args.header.now.group_bytes)))))))))))) (c.in_ok-push_u32-2.ensures) (x2) in
    appended c.args.out.now.items c.push_u32.new.out.items c.push_u32-10.new.out.items (bytes_of 4 1885433203) (((bytes_of 4 1) ++ ((bytes_of 8 c.args.length) ++ ((bytes_of 8 c.args.text_length) ++ ((c.args.stamp.now) ++ ((bytes_of 4 c.args.header.now.tokens) ++ ((bytes_of 4 c.args.header.now.lines) ++ ((bytes_of 4 c.args.header.now.sources) ++ ((bytes_of 4 c.args.header.now.names) ++ ((bytes_of 4 c.args.header.now.ignored) ++ ((bytes_of 4 (flag_of c.args.header.now.has_ignore_list)) ++ ((bytes_of 4 (flag_of c.args.header.now.has_line_numbers)) ++ (bytes_of 4 c.args.header.now.group_bytes))))))))))))) (c.in_ok-push_u32.ensures) (x1)
