use Rattle.std.proofs.Common.{◌≡◌, ◌↔◌, ℕ, List, [], Option, Some, None, Result, Ok, Err}
use Rattle.std.proofs.Common.{MatchOption}
use Rattle.std.proofs.Common.{Bool, true, false, true≢false, IsTrue, refl, sym, subst, inl, inr}
use Rattle.std.specs.List.{Contains}
use Rattle.std.specs.Option.{unwrap_or}
use Rattle.oxc_sourcemap_c.specs.Words.{CallError, IsFlagOf, NullHandle, compiled_in, flag_of}
use Rattle.oxc_sourcemap_c.specs.Words.{held_compiled}
use Rattle.oxc_sourcemap_c.proofs.compiled.asking.is_ignored.Goals as goal

-- whether the ignore list of bytes has an id
abbrev Ignores : ℕ → List ℕ → Type 0
Ignores id bytes = Contains (unwrap_or (compiled_in bytes).content.ignore_list []) id

is_flag : (P : Type 0) (b : Bool) → IsTrue b ↔ P → IsFlagOf P (flag_of b)
is_flag P true e = inl (refl, e.0 refl)
is_flag P false e = inr (refl, λ p. true≢false (sym (e.1 p)))

abbrev IsNull : {A : Type 0} → Result A CallError → Type 0
IsNull answer = answer ≡ Err NullHandle

told : {A : Type 0} (x : A) (at : List ℕ) (held : Option (List ℕ)) (id n : ℕ) → MatchOption held (IsNull (Ok x)) (λ bytes. at ≡ bytes) → IsFlagOf (Ignores id at) n
    → MatchOption held (IsNull (Ok n)) (λ bytes. IsFlagOf (Ignores id bytes) n)
told x at None id n e is = absurd (cc e)
told x at (Some bytes) id n e is = subst (λ b. IsFlagOf (Ignores id b) n) e is

pub returns : goal.returns
returns c =
    let map = c.in_ok-compiled.compiled in
    let ignores = Ignores c.args.id map.now in
    let is : IsFlagOf ignores c.flag.result = subst (IsFlagOf ignores) (sym c.flag.ensures) (is_flag ignores c.is_ignored.result c.is_ignored.ensures) in
    told map map.now (held_compiled c.args.map.now.held) c.args.id c.flag.result c.in_ok-compiled.ensures is
