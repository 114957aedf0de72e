-- Texts that are added one after the other.
use Rattle.std.proofs.Common.{◌≡◌, ℕ, List, [], ◌∷◌, ◌++◌, sym, ap, ◌∙◌, append_assoc, codes}
use Rattle.std.proofs.Common.{decimal}
use Rattle.oxc_sourcemap_tokens.specs.Token.{TokenRecord}
use Rattle.oxc_sourcemap_mappings.specs.Canonical.{canonical}
use Rattle.oxc_sourcemap_json.specs.JsonRecord.{JsonRecord}
use Rattle.oxc_sourcemap_json.specs.JsonString.{json_string}
use Rattle.oxc_sourcemap_parts.specs.Record.{MapRecord}
use Rattle.oxc_sourcemap_json.specs.Encoded.{written_contents, record_with}
use Rattle.oxc_sourcemap_json.specs.JsonText.{json_list, content_text, field_text, optional_field}
use Rattle.oxc_sourcemap_json.specs.JsonText.{json_text}
use Rattle.oxc_sourcemap_json.specs.JsonParts.{head_text, lists_text, tail_text}
use Rattle.oxc_sourcemap_json.proofs.CanonicalPlain.{canonical_plain}

pub three_added : (old a b c t1 t2 t3 : List ℕ) → t1 ≡ old ++ a → t2 ≡ t1 ++ b → t3 ≡ t2 ++ c → t3 ≡ old ++ (a ++ (b ++ c))
three_added old a b c t1 t2 t3 p1 p2 p3 =
    p3 ∙ ap (λ t. t ++ c) (p2 ∙ ap (λ t. t ++ b) p1) ∙ append_assoc (old ++ a) b c ∙ append_assoc old a (b ++ c)

pub four_added : (old a b c d t1 t2 t3 t4 : List ℕ) → t1 ≡ old ++ a → t2 ≡ t1 ++ b → t3 ≡ t2 ++ c → t4 ≡ t3 ++ d → t4 ≡ old ++ (a ++ (b ++ (c ++ d)))
four_added old a b c d t1 t2 t3 t4 p1 p2 p3 p4 =
    p4 ∙ ap (λ t. t ++ d) (p3 ∙ ap (λ t. t ++ c) (p2 ∙ ap (λ t. t ++ b) p1))
    ∙ append_assoc ((old ++ a) ++ b) c d ∙ append_assoc (old ++ a) b (c ++ d) ∙ append_assoc old a (b ++ (c ++ d))

three_flat : (a b c more : List ℕ) → (a ++ (b ++ c)) ++ more ≡ a ++ (b ++ (c ++ more))
three_flat a b c more = append_assoc a (b ++ c) more ∙ ap (λ t. a ++ t) (append_assoc b c more)

four_flat : (a b c d more : List ℕ) → (a ++ (b ++ (c ++ d))) ++ more ≡ a ++ (b ++ (c ++ (d ++ more)))
four_flat a b c d more = append_assoc a (b ++ (c ++ d)) more ∙ ap (λ t. a ++ t) (three_flat b c d more)

seven_flat : (a b c d e f g more : List ℕ) → (a ++ (b ++ c)) ++ ((d ++ (e ++ (f ++ g))) ++ more) ≡ a ++ (b ++ (c ++ (d ++ (e ++ (f ++ (g ++ more))))))
seven_flat a b c d e f g more =
    three_flat a b c ((d ++ (e ++ (f ++ g))) ++ more) ∙ ap (λ t. a ++ (b ++ (c ++ t))) (four_flat d e f g more)

-- the three parts of a JSON text, in a row, are the text
json_text_in_parts : (j : JsonRecord) →
    head_text j.file j.source_root ++ (lists_text j.names j.sources j.sources_content j.ignore_list ++ tail_text j.mappings j.debug_id)
    ≡ json_text j
unfolding json_text head_text lists_text tail_text
json_text_in_parts j =
    seven_flat
    (codes "{\"version\":3")
    (optional_field (codes "file") json_string j.file)
    (optional_field (codes "sourceRoot") json_string j.source_root)
    (field_text (codes "names") (json_list json_string j.names))
    (field_text (codes "sources") (json_list json_string j.sources))
    (optional_field (codes "sourcesContent") (json_list content_text) j.sources_content)
    (optional_field (codes "ignoreList") (json_list decimal) j.ignore_list)
    (tail_text j.mappings j.debug_id)

-- if the three parts are added one after the other, the JSON text of the map is added
pub object_added : (r : MapRecord) (mappings old t1 t2 t3 : List ℕ)
    → t1 ≡ old ++ head_text r.file r.source_root
    → t2 ≡ t1 ++ lists_text r.names r.sources (written_contents r.source_contents) r.ignore_list
    → t3 ≡ t2 ++ tail_text mappings r.debug_id
    → t3 ≡ old ++ json_text (record_with r mappings)
object_added r mappings old t1 t2 t3 p1 p2 p3 =
    three_added old _ _ _ t1 t2 t3 p1 p2 p3
    ∙ ap (λ t. old ++ t) (json_text_in_parts (record_with r mappings))

-- the field with a canonical text, in which no byte needs an escape
pub mappings_added : (ts : List TokenRecord) (old t1 t2 t3 : List ℕ)
    → t1 ≡ old ++ codes ",\"mappings\":\""
    → t2 ≡ t1 ++ canonical ts
    → t3 ≡ t2 ++ 34 ∷ []
    → t3 ≡ old ++ field_text (codes "mappings") (json_string (canonical ts))
unfolding field_text json_string
mappings_added ts old t1 t2 t3 p1 p2 p3 =
    three_added old _ _ _ t1 t2 t3 p1 p2 p3
    ∙ ap (λ bs. old ++ (codes ",\"mappings\":\"" ++ (bs ++ 34 ∷ []))) (sym (canonical_plain ts))
