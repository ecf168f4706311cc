-- Each record that is played takes bytes of the tape, and a refused one is the last.
use Rattle.std.proofs.Common.{◌≡◌, ℕ, zero, suc, ◌+◌, ◌-◌, ◌<◌, ◌⊎◌, inl, inr, true, false, cond, List, [], ◌++◌, length, sym, refl, ap, ◌∙◌, arith}
use Rattle.std.proofs.lemmas.Grind.{common_steps}
use Rattle.tape.proofs.Sizes.{record_fits}
use Rattle.play.specs.Lines.{lines_of}
use Rattle.play.specs.Work.{refused}
use Rattle.play.specs.Play.{World, play_of, over_of}
use Rattle.transcript.specs.Printed.{printed, start, transcript_of, EveryRecordIsPlayed}

-- n records are as many as can be played
abbrev Enough : ℕ → List ℕ → World → Type 0
Enough n tape w = (w.scene.stage ≡ refused) ⊎ (length tape - w.place < n)

moves : (n : ℕ) (tape : List ℕ) (w : World) → length tape - w.place < suc n → Enough n tape (play_of 512 tape w).after
moves n tape w h = grind (arith, common_steps, record_fits)

-- after a refusal nothing is printed
none_printed : (n : ℕ) (tape : List ℕ) (w : World) → w.scene.stage ≡ refused → printed n tape w ≡ []
unfolding printed
none_printed zero tape w h = refl
none_printed (suc n) tape w h = grind (arith, common_steps)

-- more records than can be played print nothing more
agree : (m n : ℕ) (tape : List ℕ) (w : World) → Enough m tape w → Enough n tape w → printed m tape w ≡ printed n tape w
unfolding printed
agree m n tape w (inl r) q = none_printed m tape w r ∙ sym (none_printed n tape w r)
agree m n tape w (inr h) (inl r) = none_printed m tape w r ∙ sym (none_printed n tape w r)
agree zero n tape w (inr h) (inr l) = absurd (omega arith)
agree (suc m) zero tape w (inr h) (inr l) = absurd (omega arith)
agree (suc m) (suc n) tape w (inr h) (inr l) =
    ap (λ t. cond (over_of w.scene.stage tape w.place) [] (lines_of (play_of 512 tape w).outcome ++ t)) (agree m n tape (play_of 512 tape w).after (moves m tape w h) (moves n tape w l))

pub every_record_is_played : EveryRecordIsPlayed
every_record_is_played tape more = agree (length tape + 1 + more) (length tape + 1) tape start (inr (omega arith)) (inr (omega arith))

-- what is still printed
pub left : List ℕ → World → List ℕ
left tape w = printed (suc (length tape - w.place)) tape w

pub left_at_start : (tape tape' text : List ℕ) (w : World) → tape' ≡ tape → w ≡ start → text ≡ [] → text ++ left tape' w ≡ transcript_of tape
unfolding left
left_at_start tape tape' text w t s e =
    (λ i. e i ++ left (t i) (s i)) ∙ agree (suc (length tape - 0)) (length tape + 1) tape start (inr (omega arith)) (inr (omega arith))

pub left_over : (tape text whole : List ℕ) (w : World) → over_of w.scene.stage tape w.place ≡ true → text ++ left tape w ≡ whole → text ≡ whole
unfolding left printed
left_over tape text whole w o h = grind (arith, common_steps)

pub left_more : (tape tape' text text' whole : List ℕ) (w w' : World) → over_of w.scene.stage tape w.place ≡ false → tape' ≡ tape → w' ≡ (play_of 512 tape w).after → text' ≡ text ++ lines_of (play_of 512 tape w).outcome → text ++ left tape w ≡ whole → text' ++ left tape' w' ≡ whole
unfolding left printed
left_more tape tape' text text' whole w w' o t s e h =
    let same = agree (length tape - w.place) (suc (length tape - (play_of 512 tape w).after.place)) tape (play_of 512 tape w).after (moves (length tape - w.place) tape w (omega arith)) (inr (omega arith)) in
    grind (arith, common_steps, same)
