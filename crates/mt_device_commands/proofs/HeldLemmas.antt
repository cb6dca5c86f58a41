-- What a file has, after reads that left each as it was.
use Rattle.std.proofs.Common.{◌∙◌, ℕ, List, sym}
use Rattle.mt_folder.specs.Folders.{AreKept, Files, IsHeld}

pub held_before : (old mid : Files) (name bytes : List ℕ) → AreKept old mid → IsHeld mid name bytes → IsHeld old name bytes
held_before old mid name bytes kept held = λ is. sym (kept.all name) ∙ held (kept.outcome ∙ is)
