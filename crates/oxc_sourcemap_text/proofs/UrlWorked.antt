-- Worked examples of data URLs and comments that name a map, computed by the definitions themselves.
use Rattle.std.proofs.Common.{◌≡◌, ℕ, List, refl, [], ◌∷◌, ◌++◌, codes, inl, Some, None}
use Rattle.std.specs.Prelude.{Ok, Err}
use lib.Utf8.{encode}
use Rattle.std.specs.Str.{is_utf8, chars}
use Rattle.std.specs.Str.Lossy.{utf8_valid_len}
use Rattle.base64.specs.Decode.{groups_error, groups_bytes, scan_steps}
use Rattle.percent_encoding.specs.Percent.{percent_decode}
use Rattle.oxc_sourcemap_text.specs.TextLines.{lines_of}
use Rattle.oxc_sourcemap_text.specs.declared.url.data_url_error.DataUrlError.TheVariants.{BadBase64}
use Rattle.oxc_sourcemap_text.specs.declared.url.data_url_error.DataUrlError.TheVariants.{BadUtf8}
use Rattle.oxc_sourcemap_text.specs.declared.url.language.Language.TheVariants.{JavaScript, Css}
use Rattle.oxc_sourcemap_text.specs.DataUrls.{decoded_data_url, data_text}
use Rattle.oxc_sourcemap_text.specs.MappingUrls.{mapping_url, url_known, pieces, BeginsOutside}
use Rattle.oxc_sourcemap_text.specs.MappingUrls.{IsMappingComment, IsQuiet}
use Rattle.oxc_sourcemap_text.specs.CommentLaws.{with_comment}

opens-percent_encoded : decoded_data_url (codes "data:application/json;charset=utf-8,%7b%7D#x") ≡ Ok (Some (codes "{}"))
unfolding decoded_data_url data_text percent_decode is_utf8 chars encode
opens-percent_encoded = refl

opens-base64 : decoded_data_url (codes "DATA:Application/JSON;BASE64,e30%3D") ≡ Ok (Some (codes "{}"))
unfolding decoded_data_url data_text percent_decode is_utf8 chars encode groups_error groups_bytes scan_steps
opens-base64 = refl

opens-unpadded : decoded_data_url (codes "data:text/json;base64,e30") ≡ Ok (Some (codes "{}"))
unfolding decoded_data_url data_text percent_decode is_utf8 chars encode groups_error groups_bytes scan_steps
opens-unpadded = refl

opens-no_other_url : decoded_data_url (codes "a.js.map") ≡ Ok None
unfolding decoded_data_url
opens-no_other_url = refl

opens-no_other_type : decoded_data_url (codes "data:;base64,e30=") ≡ Ok None
unfolding decoded_data_url
opens-no_other_type = refl

opens-no_fragment : decoded_data_url (codes "data:application/json#,{}") ≡ Ok None
unfolding decoded_data_url
opens-no_fragment = refl

reports-base64 : decoded_data_url (codes "data:application/json;base64,e3*0") ≡ Err (BadBase64 2)
unfolding decoded_data_url data_text percent_decode groups_error groups_bytes scan_steps
reports-base64 = refl

reports-utf8 : decoded_data_url (codes "data:application/json,ab%c3") ≡ Err (BadUtf8 2)
unfolding decoded_data_url data_text percent_decode is_utf8 chars encode utf8_valid_len
reports-utf8 = refl

finds-last_line : mapping_url JavaScript (codes "x\n//# sourceMappingURL=a.map") ≡ Some (codes "a.map")
unfolding url_known pieces lines_of
finds-last_line = refl

finds-in_block : mapping_url Css (codes "a{} /*@\tsourceMappingURL=a.map */\r\n /* b */") ≡ Some (codes "a.map")
unfolding url_known pieces lines_of
finds-in_block = refl

finds-last : mapping_url JavaScript (codes "//# sourceMappingURL=a.map\n//# sourceMappingURL=b.map\n// c") ≡ Some (codes "b.map")
unfolding url_known pieces lines_of
finds-last = refl

finds-nothing_before_code : mapping_url JavaScript (codes "//# sourceMappingURL=a.map\n;") ≡ None
unfolding url_known pieces lines_of
finds-nothing_before_code = refl

finds-nothing_before_an_open_comment : mapping_url JavaScript (codes "//# sourceMappingURL=a.map\n/* b") ≡ None
unfolding url_known pieces lines_of
finds-nothing_before_an_open_comment = refl

finds-nothing_in_a_template : mapping_url JavaScript (codes "`\n//# sourceMappingURL=a.map\n//`") ≡ None
unfolding url_known pieces lines_of
finds-nothing_in_a_template = refl

finds-nothing_in_a_long_comment : mapping_url JavaScript (codes "/*\n//# sourceMappingURL=a.map\n// */") ≡ None
unfolding url_known pieces lines_of
finds-nothing_in_a_long_comment = refl

finds-no_broken_url : mapping_url JavaScript (codes "//# sourceMappingURL=a b") ≡ None
unfolding url_known pieces lines_of
finds-no_broken_url = refl

finds-no_line_comment_in_css : mapping_url Css (codes "//# sourceMappingURL=a.map") ≡ None
unfolding url_known pieces lines_of
finds-no_line_comment_in_css = refl

-- U+2028 ends the line of the comment
finds-nothing_before_code_behind_a_separator : mapping_url JavaScript (codes "//# sourceMappingURL=a.map" ++ 0x2028 ∷ codes "x") ≡ None
unfolding url_known pieces lines_of
finds-nothing_before_code_behind_a_separator = refl

finds-appended : mapping_url JavaScript (with_comment JavaScript (codes "`\n/*") (codes "a.map")) ≡ Some (codes "a.map")
unfolding url_known pieces lines_of
finds-appended = refl

finds-appended_in_css : mapping_url Css (with_comment Css (codes "a{") (codes "a.map")) ≡ Some (codes "a.map")
unfolding url_known pieces lines_of
finds-appended_in_css = refl

finds-no_quoted_url : mapping_url JavaScript (with_comment JavaScript [] (codes "a'b")) ≡ None
unfolding url_known pieces lines_of
finds-no_quoted_url = refl

begins-on_its_line : BeginsOutside JavaScript (codes "a\n") (codes "//# sourceMappingURL=a.map\n")
unfolding pieces lines_of
begins-on_its_line = refl

begins-behind_code : BeginsOutside Css (codes "a{} /") (codes "/*# sourceMappingURL=a.map */ /* b */")
unfolding pieces lines_of
begins-behind_code = refl

begins-not_inside : BeginsOutside JavaScript (codes "// ") (codes "//# sourceMappingURL=a.map") → ⊥
unfolding pieces lines_of
begins-not_inside h = cc

begins-not_inside_an_open_one : BeginsOutside JavaScript (codes "/* ") (codes "//# sourceMappingURL=a.map") → ⊥
unfolding pieces lines_of
begins-not_inside_an_open_one h = cc

-- two slashes are one comment
begins-not_behind_a_slash : BeginsOutside JavaScript (codes "a /") (codes "/*# sourceMappingURL=a.map */") → ⊥
unfolding pieces lines_of
begins-not_behind_a_slash h = cc

-- The words of a comment at the end of a later one: all else that is said of a found comment holds of them, but they begin inside.
quoted : List ℕ
quoted = codes "//# sourceMappingURL=a.map"

quoted-front : List ℕ
quoted-front = codes "//# sourceMappingURL=a.map\n// "

quoted-found : mapping_url JavaScript (quoted-front ++ quoted) ≡ Some (codes "a.map")
unfolding url_known pieces lines_of quoted quoted-front
quoted-found = refl

quoted-named : IsMappingComment JavaScript quoted (codes "a.map")
unfolding quoted
quoted-named = inl (refl, codes "# sourceMappingURL=a.map", refl, (refl, refl))

quoted-quiet : IsQuiet JavaScript []
unfolding pieces lines_of
quoted-quiet = λ known. refl

quoted-inside : BeginsOutside JavaScript quoted-front (quoted ++ []) → ⊥
unfolding pieces lines_of quoted quoted-front
quoted-inside h = cc

-- Its words at the beginning of a later comment, which names nothing since its URL has white space: all else that is said of a found
-- comment holds of them, but by themselves they name nothing.
broken-front : List ℕ
broken-front = codes "//# sourceMappingURL=a.map\n"

broken-back : List ℕ
broken-back = codes " //"

broken-found : mapping_url JavaScript (broken-front ++ quoted ++ broken-back) ≡ Some (codes "a.map")
unfolding url_known pieces lines_of quoted broken-front broken-back
broken-found = refl

broken-outside : BeginsOutside JavaScript broken-front (quoted ++ broken-back)
unfolding pieces lines_of quoted broken-front broken-back
broken-outside = refl

broken-quiet : IsQuiet JavaScript broken-back
unfolding pieces lines_of broken-back
broken-quiet = λ known. refl

broken-names_nothing : mapping_url JavaScript (quoted ++ broken-back) ≡ None
unfolding url_known pieces lines_of quoted broken-back
broken-names_nothing = refl

-- the comment before it does
broken-names_before : mapping_url JavaScript (quoted ++ codes "\n" ++ quoted ++ broken-back) ≡ Some (codes "a.map")
unfolding url_known pieces lines_of quoted broken-back
broken-names_before = refl
