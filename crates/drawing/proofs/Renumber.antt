-- A board, and the board of its free places alone: placings, choices and dealings go from the one to the other. Assumes nothing.
--   number w    the number of free place w among the free ones
use Rattle.std.proofs.Common.{◌≡◌, ℕ, ◌<◌, Bool, true, false, ◌&&◌, eqb, sym, ap, ◌∙◌, subst, inl, inr, arith}
use Rattle.std.proofs.lemmas.Bool.{cases_Bool, cases_lt, cases_order}
use Rattle.std.proofs.lemmas.Bool.Decides.{nat_tests}
use Rattle.dealing.specs.Boards.{Table, Board, Placing}
use Rattle.dealing.specs.Choice.{adding, Greedy}
use Rattle.dealing.specs.Dealing.{CanSit, DealtInOrder}
use Rattle.dealing.proofs.Counting.{find, find_passes}

module _ (b c : Board) (number : ℕ → ℕ)
    (opened : (p : ℕ) → p < c.places → c.free p ≡ true)
    (into : (w : ℕ) → w < b.places → b.free w ≡ true → number w < c.places)
    (slots : (w : ℕ) → w < b.places → b.free w ≡ true → c.slot (number w) ≡ b.slot w)
    (rises : (v w : ℕ) → v < w → w < b.places → b.free v ≡ true → number v < number w)
    (onto : (p : ℕ) → p < c.places → (w : ℕ) × (w < b.places) × (b.free w ≡ true) × (number w ≡ p)) where
  one_number : (v w : ℕ) → v < b.places → w < b.places → b.free v ≡ true → b.free w ≡ true → number v ≡ number w → v ≡ w
  one_number v w l m f g e =
      elim (cases_order v w) [
        | inl z ↦ z
        | inr z ↦ elim z [ inl y ↦ absurd (let r = rises v w y m f in omega arith) | inr y ↦ absurd (let r = rises w v y l g in omega arith) ]
      ]

  down : (t : Table) (K : ℕ → Bool) → Placing b t K → Placing c t K
  down t K s = record {
    seat = λ i. number (s.seat i);
    sits = λ i l k.
        let z = s.sits i l k in
        let e = slots (s.seat i) z.0 z.1 in
        let n = into (s.seat i) z.0 z.1 in
        let r = z.2 in
        let d = z.3 in
        (n, opened (number (s.seat i)) n, omega arith, omega arith);
    apart = λ i j l m k n z.
        let x = s.sits i l k in
        let y = s.sits j m n in
        s.apart i j l m k n (one_number (s.seat i) (s.seat j) x.0 y.0 x.1 y.1 z);
  }

  back : ℕ → ℕ
  back p = find (λ w. b.free w && eqb (number w) p) b.places 0

  back_is : (p : ℕ) → p < c.places → (back p < b.places) × (b.free (back p) ≡ true) × (number (back p) ≡ p)
  unfolding back
  back_is p l =
      let w = onto p l in
      let f = w.2 in
      let e = w.3 in
      let z = find_passes (λ w. b.free w && eqb (number w) p) b.places 0 w.0 w.1 (grind (arith, nat_tests)) in
      let y = z.1 in
      (z.0, grind (arith, nat_tests), grind (arith, nat_tests))

  up : (t : Table) (K : ℕ → Bool) → Placing c t K → Placing b t K
  up t K s = record {
    seat = λ i. back (s.seat i);
    sits = λ i l k.
        let z = s.sits i l k in
        let y = back_is (s.seat i) z.0 in
        let e : c.slot (s.seat i) ≡ b.slot (back (s.seat i)) = ap c.slot (sym y.2) ∙ slots (back (s.seat i)) y.0 y.1 in
        let r = z.2 in
        let d = z.3 in
        (y.0, y.1, omega arith, omega arith);
    apart = λ i j l m k n z.
        let x = back_is (s.seat i) (s.sits i l k).0 in
        let y = back_is (s.seat j) (s.sits j m n).0 in
        s.apart i j l m k n (sym x.2 ∙ (ap number z ∙ y.2));
  }

  pub greedy_up : (t : Table) (kept : ℕ → Bool) → Greedy c t kept → Greedy b t kept
  greedy_up t kept g = record {
    fits = λ i l k. up t (adding kept i) (g.fits i l k);
    refused = λ i l k s. g.refused i l k (down t (adding kept i) s);
  }

  module _ (t : Table) (first : ℕ → ℕ → Bool) (K : ℕ → Bool) (at : ℕ → ℕ) (s : DealtInOrder c t first K c.places at) (new : ℕ → ℕ)
      (on : (w : ℕ) → b.free w ≡ true → new w ≡ at (number w)) (off : (w : ℕ) → b.free w ≡ false → new w ≡ t.size) where
    is_free : (w : ℕ) → new w < t.size → b.free w ≡ true
    is_free w h = elim (cases_Bool (b.free w)) [ inl e ↦ e | inr e ↦ (let z = off w e in absurd (omega arith)) ]

    pub dealt_up : DealtInOrder b t first K b.places new
    dealt_up = record {
      sits = λ w l h.
          let f = is_free w h in
          let e = on w f in
          let sl = slots w l f in
          subst (λ v. CanSit b t K v w) (sym e)
          (let g = s.sits (number w) (into w l f) (subst (λ v. v < t.size) e h) in
          let r = g.2 in
          let d = g.3 in
          (g.0, f, omega arith, omega arith));
      once = λ v w l m h z.
          let f = is_free v h in
          let g = is_free w (subst (λ y. y < t.size) z h) in
          one_number v w l m f g (s.once (number v) (number w) (into v l f) (into w m g) (subst (λ y. y < t.size) (on v f) h) (sym (on v f) ∙ (z ∙ on w g)));
      foremost = λ w i l f h k r d un.
          let sl = slots w l f in
          subst (λ v. (v < t.size) × (first v i ≡ true)) (sym (on w f))
          (s.foremost (number w) i (into w l f) (opened (number w) (into w l f)) h k (omega arith) (omega arith)
          (λ q le e.
          let n = into w l f in
          let v = onto q (omega arith) in
          let nv = v.3 in
          elim (cases_lt w v.0) [
            | inl y ↦ (let x = rises w v.0 y v.1 f in omega arith)
            | inr y ↦ un v.0 y (on v.0 v.2 ∙ (ap at nv ∙ e))
          ]));
    }
