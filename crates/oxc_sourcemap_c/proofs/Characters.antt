-- The characters of a text, and the text of characters.
use Rattle.std.proofs.Common.{◌≡◌, List, ℕ, length, Some, Ok, ap, sym, subst, ◌∙◌}
use Rattle.std.specs.Prelude.{IsUtf8, Err, MatchOption}
use Rattle.std.specs.Str.{chars, encode_utf8_all}
use Rattle.std.proofs.lemmas.Str.{chars-encodes}
use Rattle.oxc_sourcemap_parts.specs.Record.{Text}
use Rattle.oxc_sourcemap_text.specs.MappingUrls.{mapping_url}
use Rattle.oxc_sourcemap_text.specs.declared.url.language.Language.{Language}
use Rattle.oxc_sourcemap_c.specs.declared.numbers.call_error.CallError.TheVariants.{NoEntry}
use Rattle.oxc_sourcemap_c.specs.declared.numbers.call_error.CallError.TheVariants.{BadOption}
use Rattle.oxc_sourcemap_c.specs.declared.texts.text.Text.{Text as LentText}
use Rattle.oxc_sourcemap_c.specs.Writing.{language_of, HasCharacters, IsUrlIn}

text_of_chars : (bytes : List ℕ) → IsUtf8 bytes → encode_utf8_all (chars bytes) ≡ bytes
text_of_chars bytes u = ap (λ bs. encode_utf8_all (chars bs)) (sym u.1.1) ∙ ap encode_utf8_all (chars-encodes u.0 u.1.0) ∙ u.1.1

-- the URL that is found has the characters that are defined
pub url_found : (code : Text) (number : ℕ) (language : Language) (url : Text) (lent : LentText) → language_of number ≡ Some language → mapping_url language (chars code) ≡ Some (chars url) → IsUtf8 url
    → lent.bytes.now ≡ url → IsUrlIn code number (Ok lent)
url_found code number language url lent l m u n =
    subst (λ o. MatchOption o (Ok lent ≡ Err BadOption) (λ language. MatchOption (mapping_url language (chars code)) (Ok lent ≡ Err NoEntry) (λ url. HasCharacters lent url))) (sym l)
    (subst (λ o. MatchOption o (Ok lent ≡ Err NoEntry) (λ url. HasCharacters lent url)) (sym m) (n ∙ sym (text_of_chars url u)))
