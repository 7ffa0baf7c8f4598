-- Bytes put one after the other. Assumes nothing.
use Rattle.std.proofs.Common.{◌≡◌, ℕ, ◌+◌, ◌<◌, ◌≤◌, List, [], ◌∷◌, ◌++◌, length, take, drop, set, refl, sym, subst, ap, ◌∙◌, add-one, arith}
use Rattle.std.proofs.lemmas.List.{append_assoc, take-append-drop, take_at, drop_at, drop-drop, length-append, length-drop, length-take-le, set_split}
use Rattle.writing.specs.declared.front.Front.{Front}
use Rattle.writing.specs.Puts.{Put, Room, Adds}

pub put_nothing : (at : ℕ) (out : List ℕ) → Put at [] out out at
put_nothing at out = record { buffer = sym (take-append-drop at out); place = omega arith }

pub put_one : (at b : ℕ) (out : List ℕ) → at < length out → Put at (b ∷ []) out (set out at b) (at + 1)
put_one at b out h = record { buffer = set_split out at b h ∙ ap (λ k. take at out ++ b ∷ drop k out) (sym (add-one at)); place = omega arith }

-- some bytes, and more behind them
pub put_then : (at m n : ℕ) (xs ys a b c : List ℕ) → at ≤ length a → Put at xs a b m → Put m ys b c n → Put at (xs ++ ys) a c n
put_then at m n xs ys a b c h p q =
    let front = take at a ++ xs in
    let mid : b ≡ front ++ drop m a = p.buffer ∙ sym (append_assoc (take at a) xs (drop m a)) in
    let long : length front ≡ m = length-append (take at a) xs ∙ (ap (λ k. k + length xs) (length-take-le at a h) ∙ sym p.place) in
    let same : take m b ≡ front = ap (take m) mid ∙ take_at front (drop m a) m long in
    let rest : drop m b ≡ drop m a = ap (drop m) mid ∙ drop_at front (drop m a) m long in
    let behind : drop n b ≡ drop n a =
    ap (λ k. drop k b) q.place ∙ (sym (drop-drop (length ys) m b) ∙ (ap (drop (length ys)) rest ∙ (drop-drop (length ys) m a ∙ ap (λ k. drop k a) (sym q.place)))) in
    record {
      buffer = q.buffer ∙ (ap (λ l. l ++ (ys ++ drop n b)) same ∙ (ap (λ l. front ++ (ys ++ l)) behind
          ∙ (append_assoc (take at a) xs (ys ++ drop n a) ∙ ap (λ l. take at a ++ l) (sym (append_assoc xs ys (drop n a))))));
      place = q.place ∙ (ap (λ k. k + length ys) p.place ∙ (omega (arith, length-append xs ys)));
    }

-- the same of a lent buffer that is written from its front on
pub adds_nothing : (front : Front) → Room 0 front → Adds [] front front
adds_nothing front room = record { room = room; same = refl; put = put_nothing front.len front.out.now }

module _ (xs : List ℕ) (a b : Front) (p : Adds xs a b) where
  -- the buffer keeps its length
  adds_long : length b.out.now ≡ length a.out.now
  adds_long =
      let room = p.room in
      let place = p.put.place in
      let before = length-take-le a.len a.out.now (omega arith) in
      let left = length-drop b.len a.out.now in
      let parts : length b.out.now ≡ length (take a.len a.out.now) + (length xs + length (drop b.len a.out.now)) =
      ap length p.put.buffer ∙ (length-append (take a.len a.out.now) (xs ++ drop b.len a.out.now) ∙ ap (λ n. length (take a.len a.out.now) + n) (length-append xs (drop b.len a.out.now))) in
      omega arith

  -- what is left of the room
  pub room_left : (n : ℕ) → Room (length xs + n) a → Room n b
  room_left n room =
      let long = adds_long in
      let place = p.put.place in
      omega arith

  pub adds_then : (ys : List ℕ) (c : Front) → Adds ys b c → Adds (xs ++ ys) a c
  adds_then ys c q =
      let long = adds_long in
      let place = p.put.place in
      let first = p.room in
      let second = q.room in
      let both = length-append xs ys in
      record {
        room = omega arith;
        same = q.same ∙ p.same;
        put = put_then a.len b.len c.len xs ys a.out.now b.out.now c.out.now (omega arith) p.put q.put;
      }

-- what the lender of a buffer holds at the end
pub put_ends : (bytes before after : List ℕ) (at : ℕ) (front : Front) → Put at bytes before front.out.now front.len → front.out.now ≡ after → Put at bytes before after front.len
put_ends bytes before after at front p e = subst (λ l. Put at bytes before l front.len) e p
