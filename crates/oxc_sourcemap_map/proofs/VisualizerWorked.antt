-- Worked examples of visual texts, computed by the definitions themselves.
use Rattle.std.specs.Prelude.{◌≡◌, refl, ℕ, List, [], ◌∷◌, codes, Option, Some, None}
use Rattle.oxc_sourcemap_tokens.specs.Token.{TokenRecord}
use Rattle.oxc_sourcemap_parts.specs.Views.{empty_record}
use Rattle.std.specs.Fmt.{digits, debug_escape}
use lib.Utf8.{encode}
use Rattle.base64.specs.Rfc4648.{encode_symbols}
use Rattle.std.specs.Str.{chars}
use Rattle.std.specs.Char.Utf16.{utf16_chars}
use Rattle.oxc_sourcemap_text.specs.TextLines.{lines_of}
use Rattle.oxc_sourcemap_map.specs.VisualText.{mapping_text, tokens_text, visual_text}
use Rattle.oxc_sourcemap_map.specs.Link.{visualization_link}

-- A code that is the content of `a.js` too, with these tokens: its visual text. A token is given by its
-- generated position, its source position and its source id.
abbrev token_at : ℕ → ℕ → ℕ → ℕ → Option ℕ → TokenRecord
token_at dst_line dst_col src_line src_col source_id =
    record { dst_line = dst_line; dst_col = dst_col; src_line = src_line; src_col = src_col; source_id = source_id; name_id = None }

abbrev text_of_copy : List ℕ → List ℕ → List TokenRecord → Option (List ℕ)
text_of_copy code content tokens = visual_text code (record empty_record { sources = codes "a.js" ∷ []; source_contents = Some content ∷ []; tokens = tokens })

shows-without-contents : visual_text (codes "x") (record empty_record { sources = codes "a.js" ∷ [] }) ≡ Some (codes "[no source contents]\n")
unfolding visual_text tokens_text
shows-without-contents = refl

shows-two-lines : text_of_copy (codes "ab\ncd") (codes "ab\ncd") (token_at 0 0 0 0 (Some 0) ∷ token_at 1 1 1 0 (Some 0) ∷ [])
    ≡ Some (codes "- a.js\n(0:0) \"ab\\n\" --> (0:0) \"ab\\n\"\n(1:0) \"cd\" --> (1:1) \"d\"\n")
unfolding visual_text tokens_text mapping_text lines_of chars utf16_chars encode digits debug_escape
shows-two-lines = refl

shows-what-is-not-there : text_of_copy (codes "ab") (codes "x") (token_at 0 0 0 9 (Some 0) ∷ token_at 3 0 0 0 (Some 0) ∷ [])
    ≡ Some (codes "- a.js\n(0:9) [invalid] --> (0:0)\n(0:0) --> (3:0) [invalid]\n")
unfolding visual_text tokens_text mapping_text lines_of chars utf16_chars encode digits debug_escape
shows-what-is-not-there = refl

shows-line-ends-whole : text_of_copy (codes "aa\r\nbb") (codes "aa\r\nbb") (token_at 0 0 0 0 (Some 0) ∷ token_at 1 0 1 0 (Some 0) ∷ [])
    ≡ Some (codes "- a.js\n(0:0) \"aa\\n\" --> (0:0) \"aa\\n\"\n(1:0) \"bb\" --> (1:0) \"bb\"\n")
unfolding visual_text tokens_text mapping_text lines_of chars utf16_chars encode digits debug_escape
shows-line-ends-whole = refl

-- the smiling face U+1F600 and `x`: the two tokens are on the two halves of a surrogate pair, so no text is defined
says-nothing-past-ascii : text_of_copy (240 ∷ 159 ∷ 152 ∷ 128 ∷ 120 ∷ []) (240 ∷ 159 ∷ 152 ∷ 128 ∷ 120 ∷ []) (token_at 0 0 0 0 (Some 0) ∷ token_at 0 1 0 1 (Some 0) ∷ []) ≡ None
unfolding visual_text tokens_text mapping_text lines_of chars utf16_chars encode digits debug_escape
says-nothing-past-ascii = refl

-- after the surrogate pair of U+1F600, `x` is at column 2, and it alone is printed, which is ASCII
shows-after-a-pair : text_of_copy (240 ∷ 159 ∷ 152 ∷ 128 ∷ 120 ∷ []) (240 ∷ 159 ∷ 152 ∷ 128 ∷ 120 ∷ []) (token_at 0 2 0 2 (Some 0) ∷ [])
    ≡ Some (codes "- a.js\n(0:2) \"x\" --> (0:2) \"x\"\n")
unfolding visual_text tokens_text mapping_text lines_of chars utf16_chars encode digits debug_escape
shows-after-a-pair = refl

links-of-one-letter : visualization_link (codes "a") (codes "{\"version\":3,\"names\":[],\"sources\":[],\"mappings\":\"\"}")
    ≡ codes "https://evanw.github.io/source-map-visualization/#MQBhNTEAeyJ2ZXJzaW9uIjozLCJuYW1lcyI6W10sInNvdXJjZXMiOltdLCJtYXBwaW5ncyI6IiJ9"
unfolding encode_symbols digits
links-of-one-letter = refl
