use Rattle.text_numbers.proofs.decimals.+put_dec.Given as goal

abbrev pub decreases-put_dec : goal.decreases-put_dec
decreases-put_dec l = l.n
