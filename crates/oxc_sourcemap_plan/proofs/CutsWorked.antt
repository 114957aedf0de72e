-- Comments that are cut out of small codes, by the definitions.
use Rattle.std.proofs.Common.{◌≡◌, ℕ, List, [], ◌∷◌, ◌++◌, refl, Some, codes, inl}
use Rattle.oxc_sourcemap_text.specs.TextLines.{lines_of}
use Rattle.oxc_sourcemap_text.specs.declared.url.language.Language.TheVariants.{JavaScript}
use Rattle.oxc_sourcemap_text.specs.MappingUrls.{pieces, url_known, mapping_url, IsQuiet}
use Rattle.oxc_sourcemap_text.specs.MappingUrls.{IsMappingComment}
use Rattle.oxc_sourcemap_plan.specs.CutLaws.{IsAtLineStart}

ends-nothing : IsAtLineStart []
unfolding lines_of
ends-nothing = ([], refl)

ends-return : IsAtLineStart (codes "a\n\r")
unfolding lines_of
ends-return = (codes "a\n" ∷ codes "\r" ∷ [], refl)

-- A carriage return and a line feed that come together are one end of a line, and the URL stays.
cuts-at_a_return : mapping_url JavaScript (codes "//# sourceMappingURL=a.map\r" ++ codes "\n// b") ≡ Some (codes "a.map")
unfolding url_known pieces lines_of
cuts-at_a_return = refl

-- A comment inside of another one, with the same URL as the one before: cut out of it, it changes what that one says.
inside-front : List ℕ
inside-front = codes "//# sourceMappingURL=a.map\n//# sourceMappingURL=b.map"

inside-comment : List ℕ
inside-comment = codes "//# sourceMappingURL=a.map"

inside-back : List ℕ
inside-back = codes " // c"

inside-found : mapping_url JavaScript (inside-front ++ inside-comment ++ inside-back) ≡ Some (codes "a.map")
unfolding url_known pieces lines_of inside-front inside-comment inside-back
inside-found = refl

inside-named : IsMappingComment JavaScript inside-comment (codes "a.map")
unfolding inside-comment
inside-named = inl (refl, codes "# sourceMappingURL=a.map", refl, (refl, refl))

inside-quiet : IsQuiet JavaScript inside-back
unfolding pieces lines_of inside-back
inside-quiet = λ known. refl

inside-whole : mapping_url JavaScript (inside-front ++ inside-back) ≡ Some (codes "a.map")
unfolding url_known pieces lines_of inside-front inside-back
inside-whole = refl

inside-before : mapping_url JavaScript inside-front ≡ Some (codes "b.map")
unfolding url_known pieces lines_of inside-front
inside-before = refl
