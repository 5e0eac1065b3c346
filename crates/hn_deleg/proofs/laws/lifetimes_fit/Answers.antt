use Rattle.hn_deleg.proofs.Fits as fits
use Rattle.hn_deleg.proofs.laws.lifetimes_fit.Goals as goal

pub returns : goal.returns
returns c view u h = fits.lifetimes_fit view u h
