-- Sizes of the program (document 01, 'Runs worked through') and for every caller.
use Rattle.std.specs.Prelude.{ℕ, suc}
use Rattle.recording.specs.Packed.{largest_recording}

-- the bytes of the longest listing, and of the longest line of a refusal
abbrev pub longest_listing : ℕ
longest_listing = 1761

abbrev pub longest_refusal : ℕ
longest_refusal = 29

-- how many bytes of its input the program reads at most: one more than the largest recording has
abbrev pub input_limit : ℕ
input_limit = suc largest_recording
