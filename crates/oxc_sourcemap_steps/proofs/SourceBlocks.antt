-- Blocks of sources, made one by one, and what they are together.
use Rattle.std.proofs.Common.{◌≡◌, refl, sym, ap, subst, ◌∙◌, ℕ, zero, suc, ◌+◌, ◌-◌, ◌<◌, ◌≤◌, min}
use Rattle.std.proofs.Common.{Bool, List, [], get_or, ◌∷◌, ◌++◌, map, length, take, drop, slice_get}
use Rattle.std.proofs.Common.{Option, Some, None, Bor, arith}
use Rattle.std.proofs.lemmas.List.{length-map, length-append, map-append, take-map, drop-map}
use Rattle.std.proofs.lemmas.List.{drop_min, take_rest}
use Rattle.std.proofs.lemmas.List.Folds.{length-flat_map-take}
use Rattle.std.proofs.lemmas.Option.{slice_get-map, slice_get_within, get_or_from_slice_get}
use Rattle.std.specs.Cow.{cow_str_bytes}
use Rattle.std.specs.declared.alloc.Global.{Global}
use Rattle.std.specs.declared.borrow.CowStr.{CowStr}
use Rattle.std.specs.List.{flat_map}
use Rattle.std.specs.Option.{option_map, option_and_then}
use Rattle.oxc_sourcemap_tokens.specs.Token.{TokenRecord}
use Rattle.oxc_sourcemap_parts.specs.DecodedMap.{DecodedSource, DecodedMap, sources_of}
use Rattle.oxc_sourcemap_parts.specs.DecodedMap.{decoded_map_of}
use Rattle.oxc_sourcemap_parts.specs.Record.{Text, MapRecord}
use Rattle.oxc_sourcemap_parts.specs.Views.{cow_texts, text_of, record_of_parts}
use Rattle.oxc_sourcemap_steps.specs.Composed.{Target}
use Rattle.oxc_sourcemap_steps.specs.Blocks.{is_listed, listed_flags, flags_of, sources_by}
use Rattle.oxc_sourcemap_steps.specs.Blocks.{sources_for, remapped_sources, marked_from}
use Rattle.oxc_sourcemap_steps.specs.Blocks.{marked_sources, marked_by, marked_for, ignored_from}
use Rattle.oxc_sourcemap_steps.specs.Blocks.{unless_empty, remapped_ignore_list}
use Rattle.oxc_sourcemap_steps.specs.Inputs.{input_for, decoded_inputs}
use Rattle.oxc_sourcemap_steps.specs.Remapped.{listed_sources, input_of, original_by, block_start}
use Rattle.oxc_sourcemap_steps.specs.Remapped.{original_at, original}
use Rattle.oxc_sourcemap_steps.specs.RemapSteps.{record_of_input, IsFor, block_sources, block_input}
use Rattle.oxc_sourcemap_steps.specs.RemapSteps.{HasSources, IsBlock, AreBlocksFrom, AreBlocks}
use Rattle.oxc_sourcemap_steps.specs.RemapSteps.{HasInput, IsUsable, AreUsable, block_of}
use Rattle.oxc_sourcemap_steps.specs.RemapSteps.{block_original, set_from, block_ids}
use Rattle.oxc_sourcemap_steps.specs.declared.remap.blocks.Block.{Block}
use Rattle.oxc_sourcemap_steps.specs.declared.remap.inputs.Input.{Input}
use Rattle.oxc_sourcemap_steps.proofs.Indices.{one-at, some_is}
use Rattle.oxc_sourcemap_steps.proofs.Flags.{marked-flags, marked-unmarked, set-ignored}
use Rattle.oxc_sourcemap_steps.proofs.Flags.{ignored-append, count-listed}
use Rattle.oxc_sourcemap_steps.proofs.InputPlaces.{input_for-map}

-- ---- sources with their contents
pub length-sources_of : (ps : List Text) (cs : List (Option Text)) → length (sources_of ps cs) ≡ length ps
length-sources_of [] cs = refl
length-sources_of (p ∷ ps) [] = ap suc (length-sources_of ps [])
length-sources_of (p ∷ ps) (c ∷ cs) = ap suc (length-sources_of ps cs)

pub paths-of : (ps : List Text) (cs : List (Option Text)) → map (λ s. s.path) (sources_of ps cs) ≡ ps
paths-of [] cs = refl
paths-of (p ∷ ps) [] = ap (λ qs. p ∷ qs) (paths-of ps [])
paths-of (p ∷ ps) (c ∷ cs) = ap (λ qs. p ∷ qs) (paths-of ps cs)

drop-none : {A : Type 0} (i : ℕ) (xs : List A) → xs ≡ [] → drop i xs ≡ []
drop-none zero xs e = e
drop-none (suc i) [] e = refl
drop-none (suc i) (x ∷ xs) e = absurd (cc (e))

pub one-source : (ps : List Text) (cs : List (Option Text)) (i : ℕ) → sources_of (take 1 (drop i ps)) (drop i cs) ≡ take 1 (drop i (sources_of ps cs))
one-source [] cs zero = refl
one-source [] cs (suc i) = refl
one-source (p ∷ ps) [] zero = refl
one-source (p ∷ ps) (c ∷ cs) zero = refl
one-source (p ∷ ps) [] (suc i) = ap (sources_of (take 1 (drop i ps))) (sym (drop-none i [] refl)) ∙ one-source ps [] i
one-source (p ∷ ps) (c ∷ cs) (suc i) = one-source ps cs i

-- the sources and contents of a block of one source
pub own-sources : (ps ss : List (CowStr Global)) (cs ds : List (Option (CowStr Global))) (i n j m : ℕ) → n ≡ 1 → ss ≡ take n (drop i ps) → j ≡ min i (length cs) → m ≡ length cs
    → ds ≡ take (m - j) (drop j cs) → sources_of (cow_texts ss) (map text_of ds) ≡ take 1 (drop i (sources_of (cow_texts ps) (map text_of cs)))
own-sources ps ss cs ds i n j m e s f g d =
    let sources : cow_texts ss ≡ take 1 (drop i (cow_texts ps)) =
    ap cow_texts (s ∙ ap (λ k. take k (drop i ps)) e) ∙ sym (take-map cow_str_bytes 1 (drop i ps)) ∙ ap (take 1) (sym (drop-map cow_str_bytes i ps)) in
    let rest : ds ≡ drop i cs =
    d ∙ ap (λ k. take (k - j) (drop j cs)) g ∙ take_rest cs j ∙ ap (λ k. drop k cs) f ∙ drop_min i cs in
    let contents : map text_of ds ≡ drop i (map text_of cs) = ap (map text_of) rest ∙ sym (drop-map text_of i cs) in
    ap (λ qs. sources_of qs (map text_of ds)) sources ∙ ap (sources_of (take 1 (drop i (cow_texts ps)))) contents ∙ one-source (cow_texts ps) (map text_of cs) i

-- the content of one source more
pub one-content : (ps : List Text) (cs : List (Option Text)) (i : ℕ) → i < length ps
    → map (λ s. s.content) (take (i + 1) (sources_of ps cs)) ≡ map (λ s. s.content) (take i (sources_of ps cs)) ++ option_and_then (λ c. c) (slice_get cs i) ∷ []
one-content [] cs i h = absurd (omega (arith, h))
one-content (p ∷ ps) [] zero h = refl
one-content (p ∷ ps) (c ∷ cs) zero h = refl
one-content (p ∷ ps) [] (suc i) h =
    let n : suc i + 1 ≡ suc (i + 1) = omega arith in
    ap (λ m. map (λ s. s.content) (take m (sources_of (p ∷ ps) []))) n ∙ ap (λ xs. None ∷ xs) (one-content ps [] i (omega (arith, h)))
one-content (p ∷ ps) (c ∷ cs) (suc i) h =
    let n : suc i + 1 ≡ suc (i + 1) = omega arith in
    ap (λ m. map (λ s. s.content) (take m (sources_of (p ∷ ps) (c ∷ cs)))) n ∙ ap (λ xs. c ∷ xs) (one-content ps cs i (omega (arith, h)))

-- ---- one block
pub count-sources : (b : Block) → length (block_sources b) ≡ length b.sources.now
count-sources b = length-sources_of (cow_texts b.sources.now) (map text_of b.contents.now) ∙ length-map b.sources.now _

pub block-paths : (b : Block) → map (λ s. s.path) (block_sources b) ≡ cow_texts b.sources.now
block-paths b = paths-of (cow_texts b.sources.now) (map text_of b.contents.now)

pub flags-are : (a : MapRecord) → map (λ s. s.1) (marked_sources (decoded_map_of a)) ≡ flags_of a
flags-are a = marked-flags (listed_sources a) a.ignore_list ∙ ap (listed_flags a.ignore_list) (length-sources_of a.sources a.source_contents)

pub count-flags : (a : MapRecord) → length (flags_of a) ≡ length a.sources
count-flags a = count-listed a.ignore_list (length a.sources)

marked-from : (k : ℕ) (ps : List Text) (cs : List (Option Text)) (l : Option (List ℕ)) (i : ℕ) (p : Text) → slice_get ps i ≡ Some p
    → (m : DecodedSource × Bool) × (slice_get (marked_from k (sources_of ps cs) l) i ≡ Some m) × (m.0.path ≡ p)
marked-from k [] cs l i p e = absurd (cc (e))
marked-from k (q ∷ ps) [] l zero p e = ((record { path = q; content = None }, is_listed l k), refl, some_is e)
marked-from k (q ∷ ps) (c ∷ cs) l zero p e = ((record { path = q; content = c }, is_listed l k), refl, some_is e)
marked-from k (q ∷ ps) [] l (suc i) p e = marked-from (k + 1) ps [] l i p e
marked-from k (q ∷ ps) (c ∷ cs) l (suc i) p e = marked-from (k + 1) ps cs l i p e

-- the marked source at the index of a path
pub marked-at : (a : MapRecord) (i : ℕ) (path : Text) → slice_get a.sources i ≡ Some path
    → (m : DecodedSource × Bool) × (slice_get (marked_sources (decoded_map_of a)) i ≡ Some m) × (m.0.path ≡ path)
marked-at a i path e = marked-from 0 a.sources a.source_contents a.ignore_list i path e

-- the sources and flags of a block, by its input
pub has-none : (a : MapRecord) (i : ℕ) (o : Option (Bor Input)) (b : Block) → o ≡ None → block_sources b ≡ take 1 (drop i (listed_sources a))
    → b.ignored.now ≡ take 1 (drop i (flags_of a)) → HasSources a i o b
has-none a i o b e s f = subst (λ o. HasSources a i o b) (sym e) (s, f)

pub has-some : (a : MapRecord) (i : ℕ) (o : Option (Bor Input)) (input : Bor Input) (b : Block) → o ≡ Some input → block_sources b ≡ listed_sources (record_of_input input.now)
    → b.ignored.now ≡ input.now.ignored.items → HasSources a i o b
has-some a i o input b e s f = subst (λ o. HasSources a i o b) (sym e) (s, f)

pub sources-are : (a : MapRecord) → map (λ s. s.0) (marked_sources (decoded_map_of a)) ≡ listed_sources a
sources-are a = marked-unmarked 0 (listed_sources a) a.ignore_list

pub count-all-marked : (a : MapRecord) → length (marked_sources (decoded_map_of a)) ≡ length a.sources
count-all-marked a = sym (length-map (marked_sources (decoded_map_of a)) (λ m. m.0)) ∙ ap length (sources-are a) ∙ length-sources_of a.sources a.source_contents

source-is : (a : MapRecord) (i : ℕ) (m : DecodedSource × Bool) → slice_get (marked_sources (decoded_map_of a)) i ≡ Some m → slice_get (listed_sources a) i ≡ Some m.0
source-is a i m e = ap (λ ss. slice_get ss i) (sym (sources-are a)) ∙ slice_get-map (λ m. m.0) (marked_sources (decoded_map_of a)) i ∙ ap (option_map (λ m. m.0)) e

flag-is : (a : MapRecord) (i : ℕ) (m : DecodedSource × Bool) → slice_get (marked_sources (decoded_map_of a)) i ≡ Some m → slice_get (flags_of a) i ≡ Some m.1
flag-is a i m e = ap (λ fs. slice_get fs i) (sym (flags-are a)) ∙ slice_get-map (λ m. m.1) (marked_sources (decoded_map_of a)) i ∙ ap (option_map (λ m. m.1)) e

module _ (inputs : List (Text × MapRecord)) where
  abbrev meant : List (Text × DecodedMap)
  meant = decoded_inputs inputs

  found-none : (path : Text) → input_for inputs path ≡ None → input_for meant path ≡ None
  found-none path e = input_for-map decoded_map_of inputs path ∙ ap (option_map decoded_map_of) e

  found-some : (path : Text) (b : MapRecord) → input_for inputs path ≡ Some b → input_for meant path ≡ Some (decoded_map_of b)
  found-some path b e = input_for-map decoded_map_of inputs path ∙ ap (option_map decoded_map_of) e

  -- the sources of a block are those that stand for its source
  pub stands-for : (a : MapRecord) (i : ℕ) (m : DecodedSource × Bool) (b : Block) (input : Option (Bor Input)) → slice_get (listed_sources a) i ≡ Some m.0
      → IsFor inputs m.0.path input → HasSources a i input b → block_sources b ≡ sources_for meant m.0
  stands-for a i m b None at for has = has.0 ∙ one-at (listed_sources a) i m.0 at ∙ sym (ap (λ o. sources_by o m.0) (found-none m.0.path for))
  stands-for a i m b (Some input) at for has = has.0 ∙ sym (ap (λ o. sources_by o m.0) (found-some m.0.path (record_of_input input.now) for.0))

  -- and so are its flags
  pub flags-stand : (a : MapRecord) (i : ℕ) (m : DecodedSource × Bool) (b : Block) (input : Option (Bor Input)) → slice_get (flags_of a) i ≡ Some m.1
      → IsFor inputs m.0.path input → HasSources a i input b → b.ignored.now ≡ map (λ s. s.1) (marked_for meant m)
  flags-stand a i m b None at for has = has.1 ∙ one-at (flags_of a) i m.1 at ∙ sym (ap (λ o. map (λ s. s.1) (marked_by o m)) (found-none m.0.path for))
  flags-stand a i m b (Some input) at for has =
      has.1 ∙ for.1.flags ∙ sym (flags-are (record_of_input input.now)) ∙ sym (ap (λ o. map (λ s. s.1) (marked_by o m)) (found-some m.0.path (record_of_input input.now) for.0))

  -- the block of a marked source
  pub is-block : (a : MapRecord) (i start : ℕ) (m : DecodedSource × Bool) (b : Block) (input : Option (Bor Input)) → slice_get (marked_sources (decoded_map_of a)) i ≡ Some m
      → IsFor inputs m.0.path input → HasSources a i input b → b.start ≡ start → b.input ≡ input → start + length b.sources.now ≤ 4294967295 → IsBlock inputs start m b
  is-block a i start m b input at for has e f room = record {
    starts = e;
    sources_are = stands-for a i m b input (source-is a i m at) for has;
    ignored_are = flags-stand a i m b input (flag-is a i m at) for has;
    room = room;
    input_is = subst (IsFor inputs m.0.path) (sym f) for;
  }

  unmark-by : (o : Option DecodedMap) (m : DecodedSource × Bool) → map (λ s. s.0) (marked_by o m) ≡ sources_by o m.0
  unmark-by None m = refl
  unmark-by (Some b) m = marked-unmarked 0 b.sources b.ignore_list

  -- as many flags stand for a source as sources
  pub count-marked : (m : DecodedSource × Bool) → length (marked_for meant m) ≡ length (sources_for meant m.0)
  count-marked m = sym (length-map (marked_for meant m) (λ s. s.0)) ∙ ap length (unmark-by (input_for meant m.0.path) m)

  -- ---- usable blocks
  input-by : (b : Block) (m : DecodedSource × Bool) (input : Option (Bor Input)) → block_sources b ≡ sources_for meant m.0 → IsFor inputs m.0.path input → HasInput b input
  input-by b m None e for = sym (count-sources b) ∙ ap length (e ∙ ap (λ o. sources_by o m.0) (found-none m.0.path for))
  input-by b m (Some input) e for = (
    sym (count-sources b) ∙ ap length (e ∙ ap (λ o. sources_by o m.0) (found-some m.0.path (record_of_input input.now) for.0))
        ∙ length-sources_of (record_of_parts input.now.map.now).sources (record_of_parts input.now.map.now).source_contents ∙ length-map input.now.map.now.sources.items _,
    for.1.index,
  )

  usable : (start : ℕ) (m : DecodedSource × Bool) (b : Block) → IsBlock inputs start m b → IsUsable b
  usable start m b h = record {
    room = omega (arith, h.starts, h.room);
    flags = ap length h.ignored_are ∙ length-map (marked_for meant m) (λ s. s.1) ∙ count-marked m ∙ sym (ap length h.sources_are) ∙ count-sources b;
    input_is = input-by b m b.input h.sources_are h.input_is;
  }

  all-usable : (start : ℕ) (ms : List (DecodedSource × Bool)) (bs : List Block) → AreBlocksFrom inputs start ms bs → AreUsable bs
  all-usable start [] [] h = tt
  all-usable start [] (b ∷ bs) h = absurd h
  all-usable start (m ∷ ms) [] h = absurd h
  all-usable start (m ∷ ms) (b ∷ bs) h = (usable start m b h.0, all-usable (start + length b.sources.now) ms bs h.1)

  pub are-usable : (a : MapRecord) (bs : List Block) → AreBlocks inputs a bs → AreUsable bs
  are-usable a bs h = all-usable 0 (marked_sources (decoded_map_of a)) bs h

  -- ---- one block more
  abbrev pub total : List Block → ℕ
  total bs = length (flat_map block_sources bs)

  total-cons : (b : Block) (bs : List Block) → total (b ∷ bs) ≡ length b.sources.now + total bs
  total-cons b bs = length-append (block_sources b) (flat_map block_sources bs) ∙ ap (λ n. n + total bs) (count-sources b)

  pub one-more : (start next : ℕ) (ms : List (DecodedSource × Bool)) (bs : List Block) (m : DecodedSource × Bool) (b : Block) → AreBlocksFrom inputs start ms bs
      → next ≡ start + total bs → IsBlock inputs next m b → AreBlocksFrom inputs start (ms ++ m ∷ []) (bs ++ b ∷ [])
  one-more start next [] [] m b h e is = (subst (λ n. IsBlock inputs n m b) (e ∙ omega arith) is, tt)
  one-more start next [] (c ∷ bs) m b h e is = absurd h
  one-more start next (n ∷ ms) [] m b h e is = absurd h
  one-more start next (n ∷ ms) (c ∷ bs) m b h e is =
      let t = total-cons c bs in
      (h.0, one-more (start + length c.sources.now) next ms bs m b h.1 (omega (arith, e, t)) is)

  pub total-last : (bs : List Block) (b : Block) → total (bs ++ b ∷ []) ≡ total bs + length b.sources.now
  total-last [] b = total-cons b [] ∙ omega arith
  total-last (c ∷ bs) b =
      let t = total-cons c bs in
      let u = total-cons c (bs ++ b ∷ []) in
      let v = total-last bs b in
      omega (arith, t, u, v)

  -- ---- all blocks
  pub all-sources : (start : ℕ) (ms : List (DecodedSource × Bool)) (bs : List Block) → AreBlocksFrom inputs start ms bs
      → flat_map block_sources bs ≡ remapped_sources meant (map (λ m. m.0) ms)
  all-sources start [] [] h = refl
  all-sources start [] (b ∷ bs) h = absurd h
  all-sources start (m ∷ ms) [] h = absurd h
  all-sources start (m ∷ ms) (b ∷ bs) h =
      ap (λ ss. ss ++ flat_map block_sources bs) h.0.sources_are ∙ ap (λ ss. sources_for meant m.0 ++ ss) (all-sources (start + length b.sources.now) ms bs h.1)

  pub sources-together : (a : MapRecord) (bs : List Block) → AreBlocks inputs a bs → flat_map block_sources bs ≡ remapped_sources meant (listed_sources a)
  sources-together a bs h = all-sources 0 (marked_sources (decoded_map_of a)) bs h ∙ ap (remapped_sources meant) (sources-are a)

  -- the sources up to a block that go past the limit
  pub past-all : (a : MapRecord) (bs : List Block) (i : ℕ) (m : DecodedSource × Bool) (b : Block) (input : Option (Bor Input))
      → AreBlocksFrom inputs 0 (take i (marked_sources (decoded_map_of a))) bs → slice_get (marked_sources (decoded_map_of a)) i ≡ Some m
      → IsFor inputs m.0.path input → HasSources a i input b → 4294967295 < total bs + length b.sources.now
      → 4294967295 < length (remapped_sources meant (listed_sources a))
  past-all a bs i m b input h at for has p =
      let f = sources_for meant in
      let ss = listed_sources a in
      let here = source-is a i m at in
      let within = slice_get_within ss i m.0 here in
      let front : flat_map block_sources bs ≡ flat_map f (take i ss) =
      all-sources 0 (take i (marked_sources (decoded_map_of a))) bs h
      ∙ ap (remapped_sources meant) (sym (take-map (λ m. m.0) i (marked_sources (decoded_map_of a))) ∙ ap (take i) (sources-are a)) in
      let before = ap length front in
      let read : get_or ss i m.0 ≡ m.0 = get_or_from_slice_get ss i m.0 m.0 here in
      let block : length (f (get_or ss i m.0)) ≡ length b.sources.now =
      ap (λ s. length (f s)) read ∙ sym (ap length (stands-for a i m b input here for has)) ∙ count-sources b in
      let all = length-flat_map-take f ss i m.0 within in
      omega (arith, p, before, block, all)

  map-together : {B : Type 0} (f : DecodedSource → B) (bs : List Block) → flat_map (λ b. map f (block_sources b)) bs ≡ map f (flat_map block_sources bs)
  map-together f [] = refl
  map-together f (b ∷ bs) =
      ap (λ xs. map f (block_sources b) ++ xs) (map-together f bs) ∙ sym (map-append f (block_sources b) (flat_map block_sources bs))

  paths-together-of : (bs : List Block) → flat_map (λ b. cow_texts b.sources.now) bs ≡ map (λ s. s.path) (flat_map block_sources bs)
  paths-together-of [] = refl
  paths-together-of (b ∷ bs) =
      ap (λ xs. xs ++ flat_map (λ b. cow_texts b.sources.now) bs) (sym (block-paths b)) ∙ ap (λ xs. map (λ s. s.path) (block_sources b) ++ xs) (paths-together-of bs)
      ∙ sym (map-append (λ s. s.path) (block_sources b) (flat_map block_sources bs))

  pub paths-together : (a : MapRecord) (bs : List Block) → AreBlocks inputs a bs
      → flat_map (λ b. cow_texts b.sources.now) bs ≡ map (λ s. s.path) (remapped_sources meant (listed_sources a))
  paths-together a bs h = paths-together-of bs ∙ ap (map (λ s. s.path)) (sources-together a bs h)

  pub contents-together : (a : MapRecord) (bs : List Block) → AreBlocks inputs a bs
      → flat_map (λ b. map (λ s. s.content) (block_sources b)) bs ≡ map (λ s. s.content) (remapped_sources meant (listed_sources a))
  contents-together a bs h = map-together (λ s. s.content) bs ∙ ap (map (λ s. s.content)) (sources-together a bs h)

  ids-from : (start : ℕ) (ms : List (DecodedSource × Bool)) (bs : List Block) → AreBlocksFrom inputs start ms bs
      → block_ids bs ≡ ignored_from start (flat_map (marked_for meant) ms)
  ids-from start [] [] h = refl
  ids-from start [] (b ∷ bs) h = absurd h
  ids-from start (m ∷ ms) [] h = absurd h
  ids-from start (m ∷ ms) (b ∷ bs) h =
      let next = start + length b.sources.now in
      let here : set_from b.start b.ignored.now ≡ ignored_from start (marked_for meant m) =
      ap (λ n. set_from n b.ignored.now) h.0.starts ∙ ap (set_from start) h.0.ignored_are ∙ set-ignored start (marked_for meant m) in
      let count : length b.sources.now ≡ length (marked_for meant m) = sym (count-sources b) ∙ ap length h.0.sources_are ∙ sym (count-marked m) in
      ap (λ ids. ids ++ block_ids bs) here ∙ ap (λ ids. ignored_from start (marked_for meant m) ++ ids) (ids-from next ms bs h.1)
      ∙ sym (ignored-append start next (marked_for meant m) (flat_map (marked_for meant) ms) (ap (λ n. start + n) count))

  pub ignored-together : (a : MapRecord) (bs : List Block) → AreBlocks inputs a bs → unless_empty (block_ids bs) ≡ remapped_ignore_list meant (decoded_map_of a)
  ignored-together a bs h = ap unless_empty (ids-from 0 (marked_sources (decoded_map_of a)) bs h)

  all-fit : (start : ℕ) (ms : List (DecodedSource × Bool)) (bs : List Block) → start ≤ 4294967295 → AreBlocksFrom inputs start ms bs → start + total bs ≤ 4294967295
  all-fit start [] [] s h = omega (arith, s)
  all-fit start [] (b ∷ bs) s h = absurd h
  all-fit start (m ∷ ms) [] s h = absurd h
  all-fit start (m ∷ ms) (b ∷ bs) s h =
      let t = total-cons b bs in
      let more = all-fit (start + length b.sources.now) ms bs h.0.room h.1 in
      omega (arith, t, more)

  pub few-sources : (a : MapRecord) (bs : List Block) → AreBlocks inputs a bs → length (remapped_sources meant (listed_sources a)) ≤ 4294967295
  few-sources a bs h =
      let e = ap length (sources-together a bs h) in
      let f = all-fit 0 (marked_sources (decoded_map_of a)) bs (omega arith) h in
      omega (arith, e, f)

  -- ---- the block at an index
  abbrev SameAt : ℕ → Option (DecodedSource × Bool) → Option Block → Type 0
  SameAt start None None = Unit {0}
  SameAt start None (Some b) = ⊥
  SameAt start (Some m) None = ⊥
  SameAt start (Some m) (Some b) = IsBlock inputs start m b

  at-from : (start : ℕ) (ms : List (DecodedSource × Bool)) (bs : List Block) (i : ℕ) → AreBlocksFrom inputs start ms bs
      → SameAt (start + length (remapped_sources meant (map (λ m. m.0) (take i ms)))) (slice_get ms i) (slice_get bs i)
  at-from start [] [] i h = tt
  at-from start [] (b ∷ bs) i h = absurd h
  at-from start (m ∷ ms) [] i h = absurd h
  at-from start (m ∷ ms) (b ∷ bs) zero h = subst (λ n. IsBlock inputs n m b) (omega arith) h.0
  at-from start (m ∷ ms) (b ∷ bs) (suc i) h =
      let rest = remapped_sources meant (map (λ m. m.0) (take i ms)) in
      let count : length b.sources.now ≡ length (sources_for meant m.0) = sym (count-sources b) ∙ ap length h.0.sources_are in
      let all = length-append (sources_for meant m.0) rest in
      let n : (start + length b.sources.now) + length rest ≡ start + length (sources_for meant m.0 ++ rest) = omega (arith, count, all) in
      subst (λ k. SameAt k (slice_get ms i) (slice_get bs i)) n (at-from (start + length b.sources.now) ms bs i h.1)

  module _ (a : MapRecord) (bs : List Block) (are : AreBlocks inputs a bs) where
    abbrev ms : List (DecodedSource × Bool)
    ms = marked_sources (decoded_map_of a)

    start-is : (i : ℕ) → 0 + length (remapped_sources meant (map (λ m. m.0) (take i ms))) ≡ block_start inputs a i
    start-is i = omega arith ∙ ap (λ ss. length (remapped_sources meant ss)) (sym (take-map (λ m. m.0) i ms) ∙ ap (take i) (sources-are a))

    same-at : (i : ℕ) → SameAt (block_start inputs a i) (slice_get ms i) (slice_get bs i)
    same-at i = subst (λ n. SameAt n (slice_get ms i) (slice_get bs i)) (start-is i) (at-from 0 ms bs i are)

    source-at : (i : ℕ) → slice_get (listed_sources a) i ≡ option_map (λ m. m.0) (slice_get ms i)
    source-at i = ap (λ ss. slice_get ss i) (sym (sources-are a)) ∙ slice_get-map (λ m. m.0) ms i

    input-is : (path : Text) (b : Block) (input : Option (Bor Input)) → b.input ≡ input → IsFor inputs path input → block_input b ≡ input_for inputs path
    input-is path b None e for = ap (option_map (λ input. record_of_input input.now)) e ∙ sym for
    input-is path b (Some input) e for =
        ap (option_map (λ input. record_of_input input.now)) e ∙ sym for.0

    input-by-index : (start : ℕ) (o : Option (DecodedSource × Bool)) (p : Option Block) → SameAt start o p
        → option_and_then block_input p ≡ option_and_then (λ s. input_for inputs s.path) (option_map (λ m. m.0) o)
    input-by-index start None None h = refl
    input-by-index start None (Some b) h = absurd h
    input-by-index start (Some m) None h = absurd h
    input-by-index start (Some m) (Some b) h = input-is m.0.path b b.input refl h.input_is

    input-by-id : (id : Option ℕ) → option_and_then block_input (option_and_then (slice_get bs) id) ≡ option_and_then (λ s. input_for inputs s.path) (option_and_then (slice_get (listed_sources a)) id)
    input-by-id None = refl
    input-by-id (Some i) =
        input-by-index (block_start inputs a i) (slice_get ms i) (slice_get bs i) (same-at i) ∙ ap (option_and_then (λ s. input_for inputs s.path)) (sym (source-at i))

    -- the input of the block of a token's source is the input for that source
    pub block-input-of : (t : TokenRecord) → option_and_then block_input (block_of bs t) ≡ input_of inputs a t
    block-input-of t = input-by-id t.source_id

    original-by-index : (l : Target) (i : ℕ) (o : Option (DecodedSource × Bool)) (p : Option Block) → SameAt (block_start inputs a i) o p
        → block_original p a.names l ≡ option_and_then (λ s. original_by (input_for inputs s.path) (block_start inputs a i) a.names l) (option_map (λ m. m.0) o)
    original-by-index l i None None h = refl
    original-by-index l i None (Some b) h = absurd h
    original-by-index l i (Some m) None h = absurd h
    original-by-index l i (Some m) (Some b) h =
        ap (λ q. original_by q b.start a.names l) (input-is m.0.path b b.input refl h.input_is)
        ∙ ap (λ n. original_by (input_for inputs m.0.path) n a.names l) h.starts

    original-by-id : (l : Target) (id : Option ℕ) → block_original (option_and_then (slice_get bs) id) a.names l ≡ option_and_then (original_at inputs a l) id
    original-by-id l None = refl
    original-by-id l (Some i) =
        original-by-index l i (slice_get ms i) (slice_get bs i) (same-at i)
        ∙ ap (option_and_then (λ s. original_by (input_for inputs s.path) (block_start inputs a i) a.names l)) (sym (source-at i))

    -- a token leads by the block of its source to where it leads
    pub block-original-is : (l : Target) → block_original (block_of bs l.token) a.names l ≡ original inputs a l
    block-original-is l = original-by-id l l.token.source_id
