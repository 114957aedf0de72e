-- A page that holds data.
use Rattle.std.specs.Prelude.{◌≡◌, ◌≤◌, ◌++◌, codes, Ok, length}
use Rattle.base64.specs.Engines.{standard}
use Rattle.base64.specs.GeneralPurpose.{decode_of}
use Rattle.oxc_sourcemap_parts.specs.Record.{Text}

-- where the data of a template comes
abbrev pub data_mark : Text
data_mark = codes "{{data}}"

-- a data mark stands somewhere in a text
abbrev pub HasDataMark : Text → Type 0
HasDataMark text = (front : Text) × (back : Text) × (text ≡ front ++ (data_mark ++ back))

-- A page is its template, but for the first mark: there it has a text that reads back, as base64, as the data.
pub record IsFilled (template content page : Text) : Type 0 where
  pub front : Text
  pub back : Text
  pub template_is : template ≡ front ++ (data_mark ++ back)
  pub is_first : (xs ys : Text) → template ≡ xs ++ (data_mark ++ ys) → length front ≤ length xs
  pub held : Text
  pub reads_back : decode_of standard held ≡ Ok content
  pub page_is : page ≡ front ++ (held ++ back)
