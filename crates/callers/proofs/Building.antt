-- A builder with one source, one name and one token.
use Rattle.std.proofs.Common.{◌≡◌, ◌≤◌, ◌⊎◌, inl, inr, ℕ, [], ◌∷◌, ◌++◌, length, Some, None, ap}
use Rattle.std.proofs.Common.{◌∙◌, arith}
use Rattle.std.specs.FinMap as fin
use Rattle.std.specs.Cmp.Lexicographic.{nat_list_cmp_total}
use Rattle.oxc_sourcemap.specs.Error.{Error}
use Rattle.oxc_sourcemap.specs.Error.TheVariants.{OutOfMemory, TooLarge}
use Rattle.oxc_sourcemap.specs.Token.{kept_id}
use Rattle.oxc_sourcemap.specs.Record.{Text, MapRecord}
use Rattle.oxc_sourcemap.specs.Views.{empty_record}
use Rattle.oxc_sourcemap.specs.Built.{Built, nothing_built}
use Rattle.oxc_sourcemap.specs.Building.{with_name, with_source, with_path, with_path_at}

-- no path has an id yet
none-given : (path : Text) → fin.get nothing_built.given path ≡ None
none-given path = fin.get-from_entries nat_list_cmp_total [] path

first-source : Text → Text → Built
first-source path content = record { map = with_source empty_record path content; given = fin.insert nothing_built.given path 0 }

first-path : (path content : Text) → with_path nothing_built path content ≡ (first-source path content, 0)
unfolding first-source
first-path path content = ap (with_path_at nothing_built path (Some content)) (none-given path)

-- a map with this token after its others
abbrev with-token : ℕ → ℕ → MapRecord → ℕ → ℕ → MapRecord
with-token line col r i j = record r { tokens = r.tokens ++ record { dst_line = 0; dst_col = 0; src_line = line; src_col = col; source_id = kept_id (Some i); name_id = kept_id (Some j) } ∷ [] }

source-is : (b : Built) (i : ℕ) (path content : Text) → (b, i) ≡ with_path nothing_built path content → ◌≡◌ {A = Built × ℕ} (b, i) (first-source path content, 0)
source-is b i path content first = first ∙ first-path path content

-- no name was added before
no-names : (b : Built) (i : ℕ) (path content : Text) → (b, i) ≡ with_path nothing_built path content → length b.map.names ≡ 0
unfolding first-source
no-names b i path content first = ap (λ (t : Built × ℕ). length t.0.map.names) (source-is b i path content first)

memory-left : (e : Error) (n : ℕ) {A : Type 0} → n ≡ 0 → (e ≡ OutOfMemory) ⊎ (e ≡ TooLarge) → (e ≡ TooLarge → A × (4294967295 ≤ n)) → e ≡ OutOfMemory
memory-left e n z (inl o) h = o
memory-left e n z (inr t) h = absurd (let past = (h t).1 in omega arith)

-- so the id of the name is not too large
pub name-fits : (b : Built) (i : ℕ) (path content : Text) → (b, i) ≡ with_path nothing_built path content → (e : Error) {A : Type 0}
    → (e ≡ OutOfMemory) ⊎ (e ≡ TooLarge) → (e ≡ TooLarge → A × (4294967295 ≤ length b.map.names)) → e ≡ OutOfMemory
name-fits b i path content first e error large = memory-left e (length b.map.names) (no-names b i path content first) error large

pub built-is : (b b' b'' : Built) (i j : ℕ) (path content name : Text) (line col : ℕ) → (b, i) ≡ with_path nothing_built path content → (b', j) ≡ with_name b name
    → b'' ≡ record b' { map = with-token line col b'.map i j } → b''.map ≡ record {
      file = None;
      names = name ∷ [];
      source_root = None;
      sources = path ∷ [];
      source_contents = Some content ∷ [];
      tokens = record { dst_line = 0; dst_col = 0; src_line = line; src_col = col; source_id = Some 0; name_id = Some 0 } ∷ [];
      token_chunks = None;
      ignore_list = None;
      debug_id = None;
    }
unfolding first-source
built-is b b' b'' i j path content name line col first second h =
    let source = source-is b i path content first in
    let named : (b', j) ≡ with_name (first-source path content) name = second ∙ ap (λ (t : Built × ℕ). with_name t.0 name) source in
    ap (λ (x : Built). x.map) h ∙ ap (λ (x : ℕ). with-token line col b'.map x j) (ap (λ (t : Built × ℕ). t.1) source)
    ∙ ap (λ (t : Built × ℕ). with-token line col t.0.map 0 t.1) named
