-- `proposals` and `vetoes` call one another: the measure of each is the number of rounds left.
use Rattle.playback.proofs.replay.+proposals_vetoes.Given as goal

abbrev pub decreases-proposals : goal.decreases-proposals
decreases-proposals l = l.left

abbrev pub decreases-vetoes : goal.decreases-vetoes
decreases-vetoes l = l.left
