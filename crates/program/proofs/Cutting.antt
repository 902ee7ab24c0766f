-- An input is cut every forty bytes.
use Rattle.std.proofs.Common.{◌≡◌, ℕ, zero, suc, ◌-◌, ◌<◌, ◌≤◌, min, List, [], ◌∷◌, ◌++◌, length, take, drop, sym, refl, ap, ◌∙◌, arith, length-drop, take-append-drop, length-take}
use Rattle.program.specs.Cuts.{CutEvenly, Sized, cut, joined, pieces}

-- a count of pieces that suffices gives them all
same : (n m : ℕ) (bs : List ℕ) → length bs ≤ n → length bs ≤ m → cut n bs ≡ cut m bs
unfolding cut
same zero zero bs h k = refl
same zero (suc m) [] h k = refl
same zero (suc m) (b ∷ bs) h k = absurd (omega arith)
same (suc n) zero [] h k = refl
same (suc n) zero (b ∷ bs) h k = absurd (omega arith)
same (suc n) (suc m) [] h k = refl
same (suc n) (suc m) (b ∷ bs) h k =
    let l : length (drop 40 (b ∷ bs)) ≡ length (b ∷ bs) - 40 = length-drop 40 (b ∷ bs) in
    ap (λ (ps : List (List ℕ)). take 40 (b ∷ bs) ∷ ps) (same n m (drop 40 (b ∷ bs)) (omega arith) (omega arith))

one_more : (b : ℕ) (bs : List ℕ) → pieces (b ∷ bs) ≡ take 40 (b ∷ bs) ∷ pieces (drop 40 (b ∷ bs))
unfolding cut
one_more b bs =
    let l : length (drop 40 (b ∷ bs)) ≡ length (b ∷ bs) - 40 = length-drop 40 (b ∷ bs) in
    ap (λ (ps : List (List ℕ)). take 40 (b ∷ bs) ∷ ps) (same (length bs) (length (drop 40 (b ∷ bs))) (drop 40 (b ∷ bs)) (omega arith) (omega arith))

-- a list is split in one way at one length
split_same : (p q x y : List ℕ) → p ++ q ≡ x ++ y → length p ≡ length x → (p ≡ x) × (q ≡ y)
split_same [] q [] y e l = (refl, e)
split_same [] q (b ∷ x) y e l = absurd (omega arith)
split_same (a ∷ p) q [] y e l = absurd (omega arith)
split_same (a ∷ p) q (b ∷ x) y e l =
    let t : p ++ q ≡ x ++ y = cc in
    let h : a ≡ b = cc in
    let r = split_same p q x y t (omega arith) in
    let s : p ≡ x = r.0 in
    (cc, r.1)

-- the first piece, and what is cut of the rest
pub first_piece : (rest piece later : List ℕ) → rest ≡ piece ++ later → length piece ≡ min 40 (length rest) → 0 < length rest → pieces rest ≡ piece ∷ pieces later
first_piece [] piece later e l h = absurd (omega arith)
first_piece (b ∷ bs) piece later e l h =
    let r = split_same (take 40 (b ∷ bs)) (drop 40 (b ∷ bs)) piece later (take-append-drop 40 (b ∷ bs) ∙ e) (length-take 40 (b ∷ bs) ∙ sym l) in
    let p : take 40 (b ∷ bs) ≡ piece = r.0 in
    let q : drop 40 (b ∷ bs) ≡ later = r.1 in
    one_more b bs ∙ ap (λ (x : List ℕ). x ∷ pieces (drop 40 (b ∷ bs))) p ∙ ap (λ (x : List ℕ). piece ∷ pieces x) q

pub no_piece : (rest : List ℕ) → length rest ≡ 0 → pieces rest ≡ []
unfolding cut
no_piece [] h = refl
no_piece (b ∷ bs) h = absurd (omega arith)

-- nothing is lost, and each piece has its size
whole : (n : ℕ) (bs : List ℕ) → length bs ≤ n → joined (cut n bs) ≡ bs
unfolding cut
whole zero [] h = refl
whole zero (b ∷ bs) h = absurd (omega arith)
whole (suc n) [] h = refl
whole (suc n) (b ∷ bs) h =
    let l : length (drop 40 (b ∷ bs)) ≡ length (b ∷ bs) - 40 = length-drop 40 (b ∷ bs) in
    ap (λ (x : List ℕ). take 40 (b ∷ bs) ++ x) (whole n (drop 40 (b ∷ bs)) (omega arith)) ∙ take-append-drop 40 (b ∷ bs)

-- a piece before others is full: where something is left, forty bytes were taken
before : (p r : List ℕ) (n : ℕ) → (1 ≤ length p) → (length p ≤ 40) → (0 < length r → length p ≡ 40) → Sized (cut n r) → Sized (p ∷ cut n r)
unfolding cut
before p r zero some few full s = (some, few)
before p [] (suc n) some few full s = (some, few)
before p (b ∷ bs) (suc n) some few full s = (full (omega arith), s)

sized : (n : ℕ) (bs : List ℕ) → Sized (cut n bs)
unfolding cut
sized zero bs = tt
sized (suc n) [] = tt
sized (suc n) (b ∷ bs) =
    let l : length (drop 40 (b ∷ bs)) ≡ length (b ∷ bs) - 40 = length-drop 40 (b ∷ bs) in
    let t : length (take 40 (b ∷ bs)) ≡ min 40 (length (b ∷ bs)) = length-take 40 (b ∷ bs) in
    before (take 40 (b ∷ bs)) (drop 40 (b ∷ bs)) n (omega arith) (omega arith) (λ some. omega arith) (sized n (drop 40 (b ∷ bs)))

pub cut_evenly : (bs : List ℕ) → CutEvenly bs
cut_evenly bs = record { whole = whole (length bs) bs (omega arith); sized = sized (length bs) bs }
