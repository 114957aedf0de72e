-- What is lent is read through a `&` for as long as that lasts, by lending it the share of the token. Assumes `Logic`.
--     Row, Field       the struct, and its field
--     halves           a share of the struct in memory is cut and joined
--     either_lent      a proof's step: nothing is lent, at null; or a `Held` at a block and a count
--     lends_on         what is shared for the struct's lifetime is shared for that of the `&`
use Rattle.std.proofs.Common.{◌≡◌, ℕ, List, [], ◌∷◌, ◌++◌, refl, sym}
use seplogic.Ra.Ura.{Ura}
use mir.Val.{Val, vptr}
use base.Share
use base.Logic.{ent, sep, emp, id⊢, never_e, upd_i}
use base.Fml.{Lft, Share, ftrue, fsep, fseps, flft, fdead, fbor, fobor, fwand, fupd}
use base.Before.{before}
use ghost.Rules.{Halves}
use types.Logic.{Logic, sem}
use types.Kit.{Item, Goal, Seq, ‵, later, given, learn, ◌$◌, ◌∵◌, !, qed, by, use0, use1, use2}
use types.Kit.{move, keep, drop, assume, rewrite, feq_i, done}
use types.Kit.{◌⊛◌, split, group, fsplit, fjoin, fpick, fpack, updating, await, now}
use types.Tokens.{bor_fracture, obor_alter}
use types.Na.{before-Incl, before_lent}
use denote.Steps.{nothing}
use contract.BorrowLft.{meet_⊑_left}
use denote.Copied.{told_Cuts}
use denote.Laws.{Copy}
use denote.Opens.{hide, unhide, shr_dup, Cuts-Halves}
use denote.RattleType.{RattleType}
use denote.Memory.{cell_at, part_at, part_of, hidden_shr, shared_of}
use denote.RawPtr.{Ptr, block_ptr, null_ptr, Testable, rawptr_copy}
use denote.Struct.Owning.{shape, to}
use denote.Struct.Struct.{Struct, struct_copy}
use Rattle.std.specs.Prelude.{Option, None, Some}
use Rattle.oxc_sourcemap_c.specs.contracts.holding.lent.Lent as lent
use Rattle.oxc_sourcemap_c.proofs.holding.held.Held.TheLaws as held_laws
use Rattle.oxc_sourcemap_c.proofs.holding.lent.Lent.TheLaws.{lowers}
use Rattle.oxc_sourcemap_c.specs.Lent.{shared_at, lent_owns}
use Rattle.oxc_sourcemap_c.proofs.Values.{HeldRow}

abbrev pub Row : RattleType
Row = lent.the_row

abbrev pub Field : RattleType
Field = Struct (shape lent.the_type)

module _ {M : Type 1} {𝓤 : Ura M} (𝓛 : Logic 𝓤) where
  open 𝓛 use {H, A}

  shared_dup : (life : Lft) (p : Ptr) (x : Option HeldRow.Denot) → ent 𝓤 (sem 𝓛 (shared_at life p x)) (sep 𝓤 (sem 𝓛 (shared_at life p x)) (sem 𝓛 (shared_at life p x)))
  shared_dup life null_ptr None = qed 𝓛 (‵ ftrue ∷ []) ∵ use0 𝓛 (‵ ftrue) (id⊢ 𝓤 (emp 𝓤)) $ done !
  shared_dup life null_ptr (Some y) = never_e 𝓤 _
  shared_dup life (block_ptr b o) None = never_e 𝓤 _
  shared_dup life (block_ptr b o) (Some y) =
      qed 𝓛 (‵ (shared_at life (block_ptr b o) (Some y)) ∷ []) ∵ fsplit ! $ fpick ! (λ t. drop ! $ fsplit ! $ drop ! $ shr_dup ! HeldRow held_laws.the_row_laws.shr_laws y b o life $
      feq_i ! (List Val) (vptr b o ∷ []) (vptr b o ∷ []) refl $ fjoin ! $ nothing ! $ fpack ! (Testable (block_ptr b o)) (λ _. ftrue) t $ fjoin ! $ move ! (1 ∷ []) $
      feq_i ! (List Val) (vptr b o ∷ []) (vptr b o ∷ []) refl $ fjoin ! $ nothing ! $ fpack ! (Testable (block_ptr b o)) (λ _. ftrue) t $ fjoin ! $ done !)

  lent_dup : (life : Lft) (p : Ptr) (x : Option HeldRow.Denot) → ent 𝓤 (sem 𝓛 (lent_owns life p x)) (sep 𝓤 (sem 𝓛 (lent_owns life p x)) (sem 𝓛 (lent_owns life p x)))
  lent_dup life p x =
      qed 𝓛 (‵ (lent_owns life p x) ∷ []) ∵ fsplit ! $ fpick ! (λ q. use1 𝓛 (‵ (flft life (Share.left q)) ⊛ ‵ (flft life (Share.right q))) (𝓛.lfts.lft_split life q) $ split ! $ move ! (2 ∷ []) $
      use1 𝓛 (‵ (shared_at life p x) ⊛ ‵ (shared_at life p x)) (shared_dup life p x) $ split ! $ move ! (2 ∷ []) $
      fpack ! Share (λ r. flft life r) (Share.left q) $ fjoin ! $ move ! (2 ∷ 1 ∷ []) $ fpack ! Share (λ r. flft life r) (Share.right q) $ fjoin ! $ done !)

  twice : Copy 𝓛 Row
  twice = record {
    twice = λ d vs. qed 𝓛 (‵ (Row.own_val d vs) ∷ []) ∵ fsplit ! $ use1 𝓛 (‵ (Field.own_val (to lent.the_type d) vs) ⊛ ‵ (Field.own_val (to lent.the_type d) vs)) ((struct_copy 𝓛 (shape lent.the_type) (rawptr_copy 𝓛, tt)).twice (to lent.the_type d) vs) $ split ! $
        move ! (2 ∷ []) $ use1 𝓛 (‵ (lent_owns d.life d.at d.held) ⊛ ‵ (lent_owns d.life d.at d.held)) (lent_dup d.life d.at d.held) $ split ! $ move ! (2 ∷ 0 ∷ []) $ fjoin ! $ move ! (2 ∷ 1 ∷ []) $ fjoin ! $ done !;
  }

  pub halves : (d : Row.Denot) (b o : ℕ) → Halves 𝓤 H A (λ q. part_at Row q d b o)
  halves d b o = Cuts-Halves 𝓛 (λ q. part_at Row q d b o) (told_Cuts 𝓛 Row (λ x. lowers.lowered x ∷ []) lowers.val_is twice d b o)

module _ {M : Type 1} {𝓤 : Ura M} {𝓛 : Logic 𝓤} {K : Type 0} {Γ : List (Item 𝓤)} {G : Goal 𝓤 𝓛.H} where
  pub either_lent : K → (life : Lft) (p : Ptr) (x : Option HeldRow.Denot) → (p ≡ null_ptr → x ≡ None → Seq K 𝓛 (‵ (lent_owns life p x) ∷ Γ) G)
      → ((r : Share) (b o : ℕ) (y : HeldRow.Denot) → p ≡ block_ptr b o → x ≡ Some y → Testable (block_ptr b o) → Seq K 𝓛 (‵ (flft life r) ∷ ‵ (hidden_shr HeldRow life y b o) ∷ Γ) G)
      → Seq K 𝓛 (‵ (lent_owns life p x) ∷ Γ) G
  either_lent t life null_ptr None nobody one = nobody refl refl
  either_lent t life null_ptr (Some y) nobody one = fsplit t $ drop t $ use1 𝓛 (given ⊥ (‵ ftrue)) (never_e 𝓤 _) $ learn t (λ wrong. absurd wrong)
  either_lent t life (block_ptr b o) None nobody one = fsplit t $ drop t $ use1 𝓛 (given ⊥ (‵ ftrue)) (never_e 𝓤 _) $ learn t (λ wrong. absurd wrong)
  either_lent t life (block_ptr b o) (Some y) nobody one = fsplit t $ fpick t (λ r. move t (1 ∷ []) $ fsplit t $ fpick t (λ e. drop t $ fsplit t $ drop t $ move t (1 ∷ 0 ∷ []) $ one r b o y refl refl e))

module _ {M : Type 1} {𝓤 : Ura M} (𝓛 : Logic 𝓤) where
  open 𝓛 use {H, A}

  module _ (κ : Lft) (d : Row.Denot) (vs : List Val) (s r : Share) (b o : ℕ) (pb po : ℕ) (x : HeldRow.Denot) (at : d.at ≡ block_ptr pb po) (lends : d.held ≡ Some x) (t : Testable (block_ptr pb po)) where
    way_back : ent 𝓤 (sep 𝓤 (sem 𝓛 (hidden_shr HeldRow d.life x pb po)) (sep 𝓤 (sem 𝓛 (Field.own_val (to lent.the_type d) vs)) (sem 𝓛 (cell_at s Row.mir vs b o))))
        (sem 𝓛 (fwand (fsep (fdead κ) (fseps (flft d.life r ∷ []))) (fupd (part_at Row s d b o))))
    unfolding fseps part_of
    way_back = qed 𝓛 (‵ (hidden_shr HeldRow d.life x pb po) ∷ ‵ (Field.own_val (to lent.the_type d) vs) ∷ ‵ (cell_at s Row.mir vs b o) ∷ []) ∵
        assume ! (‵ (fsep (fdead κ) (fsep (flft d.life r) ftrue))) $ fsplit ! $ drop ! $ fsplit ! $ move ! (2 ∷ []) $ feq_i ! (List Val) (vptr pb po ∷ []) (vptr pb po ∷ []) refl $ fjoin ! $
        nothing ! $ fpack ! (Testable (block_ptr pb po)) (λ _. ftrue) t $ fjoin ! $ move ! (1 ∷ []) $ fpack ! Share (λ q. flft d.life q) r $ fjoin ! $
        rewrite ! 0 (λ (z : Ptr × Option HeldRow.Denot). ‵ (lent_owns d.life z.0 z.1)) (λ i. (sym at i, sym lends i)) refl $
        move ! (2 ∷ 0 ∷ []) $ fjoin ! $ move ! (2 ∷ 0 ∷ []) $ fjoin ! $ fpack ! (List Val) (λ us. fsep (cell_at s Row.mir us b o) (Row.own_val d us)) vs $
        keep ! (0 ∷ []) $ by ! (upd_i 𝓤 (sem 𝓛 (part_at Row s d b o)))

  pub shared_for : (κ life : Lft) (r : Share) (x : HeldRow.Denot) (pb po : ℕ) → ent 𝓤 (sep 𝓤 (A.bor κ (flft life r)) (sem 𝓛 (hidden_shr HeldRow life x pb po))) (H.⇛ (sem 𝓛 (hidden_shr HeldRow κ x pb po)))
  shared_for κ life r x pb po = qed 𝓛 (‵ (fbor κ (flft life r)) ∷ ‵ (hidden_shr HeldRow life x pb po) ∷ []) ∵ updating ! $
      bor_fracture ! tt (λ q. flft life q) r $ use0 𝓛 (‵ (before (life ++ κ) life)) (before-Incl 𝓛 (life ++ κ) life (meet_⊑_left life κ)) $ move ! (1 ∷ 0 ∷ []) $
      use2 𝓛 (‵ (before κ life)) (before_lent 𝓛 κ life life) $ move ! (1 ∷ []) $ unhide ! $ move ! (1 ∷ 0 ∷ []) $
      use2 𝓛 (‵ (shared_of HeldRow x pb po κ)) ((held_laws.the_row_laws.shr_laws x pb po).mono M 𝓤 𝓛 κ life) $ hide ! $ now ! $ keep ! (0 ∷ []) $ done !

  module _ (κ : Lft) (q : Share) (d : Row.Denot) (vs : List Val) (s r : Share) (b o : ℕ) (pb po : ℕ) (x : HeldRow.Denot) (at : d.at ≡ block_ptr pb po) (lends : d.held ≡ Some x) (t : Testable (block_ptr pb po)) where
    pub lends_on : ent 𝓤 (sep 𝓤 (A.lft d.life r) (sep 𝓤 (sem 𝓛 (hidden_shr HeldRow d.life x pb po)) (sep 𝓤 (sem 𝓛 (Field.own_val (to lent.the_type d) vs)) (sep 𝓤 (sem 𝓛 (cell_at s Row.mir vs b o))
        (A.obor κ q (part_at Row s d b o)))))) (H.⇛ (sep 𝓤 (sem 𝓛 (hidden_shr HeldRow κ x pb po)) (A.lft κ q)))
    unfolding fseps
    lends_on = qed 𝓛 (‵ (flft d.life r) ∷ ‵ (hidden_shr HeldRow d.life x pb po) ∷ ‵ (Field.own_val (to lent.the_type d) vs) ∷ ‵ (cell_at s Row.mir vs b o) ∷ ‵ (fobor κ q (part_at Row s d b o)) ∷ []) ∵
        updating ! $ move ! (1 ∷ []) $ shr_dup ! HeldRow held_laws.the_row_laws.shr_laws x pb po d.life $ move ! (0 ∷ 3 ∷ 4 ∷ []) $ group ! 3 $
        use1 𝓛 (‵ (fwand (fsep (fdead κ) (fseps (flft d.life r ∷ []))) (fupd (part_at Row s d b o)))) (way_back κ d vs s r b o pb po x at lends t) $
        -- [the way back; what is shared; the token; the open borrow]
        move ! (2 ∷ []) $ nothing ! $ move ! (1 ∷ 0 ∷ []) $ fjoin ! $ move ! (3 ∷ 0 ∷ 1 ∷ []) $ obor_alter ! tt (flft d.life r ∷ []) $
        use1 𝓛 (‵ (fbor κ (flft d.life r)) ⊛ ‵ ftrue) (id⊢ 𝓤 _) $ split ! $ move ! (0 ∷ 3 ∷ []) $
        use2 𝓛 (later (‵ (hidden_shr HeldRow κ x pb po))) (shared_for κ d.life r x pb po) $ await ! tt $ now ! $ keep ! (0 ∷ 2 ∷ []) $ done !
