-- What was added to a text is cut off again.
use Rattle.std.proofs.Common.{◌≡◌, ◌≤◌, ℕ, List, [], ◌++◌, length, take, string_bytes, sym, ap, ◌∙◌}
use Rattle.std.proofs.Common.{subst, append_assoc, append-nil, arith, String}
use Rattle.std.proofs.lemmas.List.{take_at, length-append}
use Rattle.std.proofs.lemmas.Str.{IsUtf8-string_bytes, IsCharBoundary-from_take}
use Rattle.std.specs.Str.{IsUtf8}
use Rattle.std.specs.String.Boundary.{IsSplitPoint}
use Rattle.std.specs.declared.alloc.Global.{Global}
use Rattle.oxc_sourcemap_json.specs.Appends.{BeginsWith, OnlyAdds}

pub begins-more : (front old more new : List ℕ) → BeginsWith old front → new ≡ old ++ more → BeginsWith new front
begins-more front old more new b e = (b.0 ++ more, e ∙ ap (λ bs. bs ++ more) b.1 ∙ append_assoc front b.0 more)

begins-itself : (old : List ℕ) → BeginsWith old old
begins-itself old = ([], sym (append-nil old))

-- the old text, cut from the new one
pub cut-back : (old new : String Global) (n : ℕ) → OnlyAdds old new → n ≡ length (string_bytes old) → take n (string_bytes new) ≡ string_bytes old
cut-back old new n adds e =
    let more = adds (string_bytes old) (begins-itself (string_bytes old)) in
    ap (take n) more.1 ∙ take_at (string_bytes old) more.0 n (sym e)

-- the new text may be cut at the end of the old one
pub cut-place : (old new : String Global) (n : ℕ) → OnlyAdds old new → n ≡ length (string_bytes old) → IsSplitPoint (string_bytes new) n
cut-place old new n adds e =
    let more = adds (string_bytes old) (begins-itself (string_bytes old)) in
    let within : n ≤ length (string_bytes new) = omega (arith, e, ap length more.1, length-append (string_bytes old) more.0) in
    let place = IsCharBoundary-from_take (string_bytes new) n (IsUtf8-string_bytes new) within (subst IsUtf8 (sym (cut-back old new n adds e)) (IsUtf8-string_bytes old)) in
    (within, λ p. place.1)
