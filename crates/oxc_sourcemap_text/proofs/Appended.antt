-- A comment behind a code is the one that counts.
use Rattle.std.proofs.Common.{◌≡◌, ℕ, Bool, true, false, List, [], ◌∷◌, ◌++◌, ◌==◌, ◌&&◌, ◌||◌}
use Rattle.std.proofs.Common.{refl}
use Rattle.std.proofs.Common.{ap, ◌∙◌, subst, append_assoc, Option, Some, None, if◌then◌else◌, fold}
use Rattle.std.proofs.Common.{flat_map, codes}
use Rattle.std.specs.Prelude.{is_some}
use Rattle.std.specs.Option.{option_map, option_or}
use Rattle.std.specs.List.{list_any}
use Rattle.std.specs.Char.{is_whitespace}
use Rattle.std.specs.Str.{drop_trailing_whitespace}
use Rattle.std.proofs.lemmas.Bool.{eqb-true}
use Rattle.std.proofs.lemmas.List.Folds.{list_any-append}
use Rattle.std.proofs.lemmas.List.Sums.{fold-append}
use Rattle.std.proofs.lemmas.Grind.{flat_map-append}
use Rattle.oxc_sourcemap_text.specs.TextLines.{ends_line, lines_of}
use Rattle.oxc_sourcemap_text.specs.TextLines.{onto_first}
use Rattle.oxc_sourcemap_text.specs.declared.url.language.Language.{Language}
use Rattle.oxc_sourcemap_text.specs.declared.url.language.Language.TheVariants.{JavaScript, Css}
use Rattle.oxc_sourcemap_text.specs.MappingUrls.{pieces, Piece, known_after, url_known, mapping_url}
use Rattle.oxc_sourcemap_text.specs.MappingUrls.{around_block_end, begins_with, may_end_another}
use Rattle.oxc_sourcemap_text.specs.MappingUrls.{named_url, is_quote}
use Rattle.oxc_sourcemap_text.specs.CommentLaws.{with_comment, CanBeNamed}
use Rattle.oxc_sourcemap_text.proofs.Cuts.{lines-end, lines-no_end}
use Rattle.oxc_sourcemap_text.proofs.Pieces.{pieces-nil, pieces-line, pieces-block}

-- ---- lines

-- a text that is cut behind a line feed
record IsCutBehind (front after : List ℕ) : Type 0 where
  first : List ℕ
  lines : List (List ℕ)
  is : lines_of (front ++ 10 ∷ after) ≡ (first ∷ lines) ++ lines_of after

cut-behind : (front after : List ℕ) → IsCutBehind front after
cut-behind [] after = record { first = 10 ∷ []; lines = []; is = lines-end 10 after refl }
cut-behind (c ∷ front) after =
    let rest = cut-behind front after in
    elim (ends_line c (front ++ 10 ∷ after)) as (λ v. ends_line c (front ++ 10 ∷ after) ≡ v → IsCutBehind (c ∷ front) after) [
      | true ↦ (λ e. record { first = c ∷ []; lines = rest.first ∷ rest.lines; is = lines-end c (front ++ 10 ∷ after) e ∙ ap (λ ls. (c ∷ []) ∷ ls) rest.is })
      | false ↦ (λ e. record { first = c ∷ rest.first; lines = rest.lines; is = lines-no_end c (front ++ 10 ∷ after) e ∙ ap (onto_first c) rest.is })
    ] refl

-- what is known after a text is what is known after what is behind a line feed in it, for something that was known before
record IsKnownBehind (slashes : Bool) (front after : List ℕ) : Type 0 where
  known : Option (List ℕ)
  is : url_known slashes (front ++ 10 ∷ after) ≡ fold known_after known (flat_map (pieces slashes None) (lines_of after))

known-behind : (s : Bool) (front after : List ℕ) → IsKnownBehind s front after
unfolding url_known
known-behind s front after =
    let cut = cut-behind front after in
    let before : List Piece = flat_map (pieces s None) (cut.first ∷ cut.lines) in
    let behind : List Piece = flat_map (pieces s None) (lines_of after) in
    record {
      known = fold known_after None before;
      is = ap (λ ls. fold known_after None (flat_map (pieces s None) ls)) cut.is
          ∙ ap (fold known_after None) (flat_map-append (pieces s None) (cut.first ∷ cut.lines) (lines_of after))
          ∙ fold-append known_after None before behind;
    }

or-false : (a b : Bool) → (a || b) ≡ false → (a ≡ false) × (b ≡ false)
or-false false b h = (refl, h)
or-false true b h = cc

-- what is no white space is no other character that is
not-white : (c k : ℕ) → is_whitespace k ≡ true → is_whitespace c ≡ false → (c == k) ≡ false
not-white c k white h =
    elim (c == k) as (λ v. (c == k) ≡ v → v ≡ false) [
      | true ↦ (λ e. let other : is_whitespace k ≡ false = subst (λ x. is_whitespace x ≡ false) (eqb-true c k e) h in cc)
      | false ↦ (λ e. refl)
    ] refl

-- a line ends with white space
pub no-end : (c : ℕ) (after : List ℕ) → is_whitespace c ≡ false → ends_line c after ≡ false
no-end c after h =
    let feed = not-white c 10 refl h in
    let separator = not-white c 0x2028 refl h in
    let paragraph = not-white c 0x2029 refl h in
    let return = not-white c 13 refl h in
    rw (feed, separator, paragraph, return) refl

-- a text without white space, and what is one line behind it
line-with : (url tail : List ℕ) → list_any is_whitespace url ≡ false → lines_of tail ≡ tail ∷ [] ∷ []
    → lines_of (url ++ tail) ≡ (url ++ tail) ∷ [] ∷ []
line-with [] tail h is = is
line-with (c ∷ url) tail h is =
    let parts = or-false (is_whitespace c) (list_any is_whitespace url) h in
    lines-no_end c (url ++ tail) (no-end c (url ++ tail) parts.0) ∙ ap (onto_first c) (line-with url tail parts.1 is)

-- ---- the text of the comment

trimmed : (url tail : List ℕ) → list_any is_whitespace url ≡ false → drop_trailing_whitespace tail ≡ [] → drop_trailing_whitespace (url ++ tail) ≡ url
trimmed [] tail h is = is
trimmed (c ∷ url) tail h is =
    let parts = or-false (is_whitespace c) (list_any is_whitespace url) h in
    rw parts.0 (ap (λ l. c ∷ l) (trimmed url tail parts.1 is))

-- a front is put before the first of two parts
abbrev onto : List ℕ → Option (List ℕ × List ℕ) → Option (List ℕ × List ℕ)
onto front parts = option_map (λ p. (front ++ p.0, p.1)) parts

onto-nothing : (parts : Option (List ℕ × List ℕ)) → parts ≡ onto [] parts
onto-nothing None = refl
onto-nothing (Some p) = refl

onto-more : (c : ℕ) (front : List ℕ) (parts : Option (List ℕ × List ℕ)) → option_map (λ p. (c ∷ p.0, p.1)) (onto front parts) ≡ onto (c ∷ front) parts
onto-more c front None = refl
onto-more c front (Some p) = refl

none-of : (c : ℕ) (parts : Option (List ℕ × List ℕ)) → is_some {T = List ℕ × List ℕ} (option_map (λ p. (c ∷ p.0, p.1)) parts) ≡ false → is_some parts ≡ false
none-of c None h = refl
none-of c (Some p) h = cc

same-begin : (cs rest : List ℕ) (x : ℕ) → (x == 47) ≡ false → begins_with 47 (cs ++ x ∷ rest) ≡ begins_with 47 cs
same-begin [] rest x h = h
same-begin (c ∷ cs) rest x h = refl

-- what stands behind a text without `*/`, if it begins with no slash
past-text : (url rest : List ℕ) (x : ℕ) → is_some (around_block_end url) ≡ false → (x == 47) ≡ false
    → around_block_end (url ++ x ∷ rest) ≡ onto url (around_block_end (x ∷ rest))
past-text [] rest x h other = onto-nothing (around_block_end (x ∷ rest))
past-text (c ∷ url) rest x h other =
    elim (c == 42 && begins_with 47 url) as (λ v. (c == 42 && begins_with 47 url) ≡ v → around_block_end (c ∷ url ++ x ∷ rest) ≡ onto (c ∷ url) (around_block_end (x ∷ rest))) [
      | true ↦ (λ e. let found = rw e at h in cc)
      | false ↦ (λ e.
          let later = none-of c (around_block_end url) (rw e at h) in
          rw (same-begin url rest x other, e) (ap (λ o. option_map (λ p. (c ∷ p.0, p.1)) o) (past-text url rest x later other) ∙ onto-more c url (around_block_end (x ∷ rest))))
    ] refl

module _ (url : List ℕ) (can : CanBeNamed url) where
  quotes : list_any is_quote url ≡ false
  quotes = (or-false (list_any is_quote url) (is_some (around_block_end url)) can.1).0

  ends : is_some (around_block_end url) ≡ false
  ends = (or-false (list_any is_quote url) (is_some (around_block_end url)) can.1).1

  -- the text of a comment behind its first two characters
  abbrev said : List ℕ → List ℕ
  said tail = codes "# sourceMappingURL=" ++ url ++ tail

  harmless : (x : ℕ) → is_quote x ≡ false → (x == 47) ≡ false → around_block_end (x ∷ []) ≡ None → may_end_another (said (x ∷ [])) ≡ false
  harmless x quote slash end =
      let none : list_any is_quote (url ++ x ∷ []) ≡ false = list_any-append is_quote url (x ∷ []) ∙ rw (quotes, quote) refl in
      let no_end : around_block_end (url ++ x ∷ []) ≡ None = past-text url [] x ends slash ∙ ap (onto url) end in
      rw (none, no_end) refl

  named : (tail : List ℕ) → drop_trailing_whitespace tail ≡ [] → named_url (said tail) ≡ Some url
  named tail is =
      let front = trimmed url tail can.0 is in
      let white = can.0 in
      rw (front, white) refl

  known : (before : Option (List ℕ)) (x : ℕ) → is_quote x ≡ false → (x == 47) ≡ false → around_block_end (x ∷ []) ≡ None → drop_trailing_whitespace (x ∷ []) ≡ []
      → known_after before (Some (said (x ∷ []))) ≡ Some url
  known before x quote slash end space =
      ap (λ b. if b then None else option_or (named_url (said (x ∷ []))) before) (harmless x quote slash end)
      ∙ ap (λ o. option_or o before) (named (x ∷ []) space)

  line_lines : lines_of (codes "//# sourceMappingURL=" ++ (url ++ codes "\n")) ≡ (codes "//" ++ said (codes "\n")) ∷ [] ∷ []
  unfolding lines_of
  line_lines = let rest = line-with url (codes "\n") can.0 refl in rw rest refl

  block_lines : lines_of (codes "/*# sourceMappingURL=" ++ (url ++ codes " */\n")) ≡ (codes "/*" ++ said (codes " */\n")) ∷ [] ∷ []
  unfolding lines_of
  block_lines = let rest = line-with url (codes " */\n") can.0 refl in rw rest refl

  in_line : pieces true None (codes "//" ++ said (codes "\n")) ≡ Some (said (codes "\n")) ∷ []
  in_line = pieces-line (said (codes "\n"))

  block_ends : around_block_end (said (codes " */\n")) ≡ Some (said (codes " "), codes "\n")
  block_ends = let rest = past-text url (codes "*/\n") 32 ends refl in rw rest refl

  in_block : pieces false None (codes "/*" ++ said (codes " */\n")) ≡ Some (said (codes " ")) ∷ []
  unfolding pieces
  in_block = pieces-block false (said (codes " */\n")) (said (codes " ")) (codes "\n") block_ends

  pub in_javascript : (code : List ℕ) → mapping_url JavaScript (with_comment JavaScript code url) ≡ Some url
  in_javascript code =
      let after = codes "//# sourceMappingURL=" ++ (url ++ codes "\n") in
      let behind = known-behind true code after in
      let whole : with_comment JavaScript code url ≡ code ++ 10 ∷ after =
      append_assoc (code ++ codes "\n//# sourceMappingURL=") url (codes "\n") ∙ append_assoc code (codes "\n//# sourceMappingURL=") (url ++ codes "\n") in
      ap (url_known true) whole ∙ behind.is ∙ ap (λ ls. fold known_after behind.known (flat_map (pieces true None) ls)) line_lines
      ∙ ap (λ ps. fold known_after behind.known (ps ++ (pieces true None [] ++ []))) in_line
      ∙ ap (λ (ps : List Piece). fold known_after behind.known ((Some (said (codes "\n")) ∷ []) ++ (ps ++ []))) (pieces-nil true)
      ∙ known behind.known 10 refl refl refl refl

  pub in_css : (code : List ℕ) → mapping_url Css (with_comment Css code url) ≡ Some url
  in_css code =
      let after = codes "/*# sourceMappingURL=" ++ (url ++ codes " */\n") in
      let behind = known-behind false code after in
      let whole : with_comment Css code url ≡ code ++ 10 ∷ after =
      append_assoc (code ++ codes "\n/*# sourceMappingURL=") url (codes " */\n") ∙ append_assoc code (codes "\n/*# sourceMappingURL=") (url ++ codes " */\n") in
      ap (url_known false) whole ∙ behind.is ∙ ap (λ ls. fold known_after behind.known (flat_map (pieces false None) ls)) block_lines
      ∙ ap (λ ps. fold known_after behind.known (ps ++ (pieces false None [] ++ []))) in_block
      ∙ ap (λ (ps : List Piece). fold known_after behind.known ((Some (said (codes " ")) ∷ []) ++ (ps ++ []))) (pieces-nil false)
      ∙ known behind.known 32 refl refl refl refl

pub appended-found : (language : Language) (code url : List ℕ) → CanBeNamed url → mapping_url language (with_comment language code url) ≡ Some url
appended-found JavaScript code url can = in_javascript url can code
appended-found Css code url can = in_css url can code
