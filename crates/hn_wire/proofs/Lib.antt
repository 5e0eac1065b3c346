mod FirstTaken
